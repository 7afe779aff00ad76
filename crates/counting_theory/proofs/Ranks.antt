-- The wrong candidates of a rank function, and their number.
use Rattle.std.proofs.Common.{ℕ, zero, suc, ◌+◌, ◌≡◌, ◌<◌, ◌≤◌, ◌≢◌, ◌&&◌, not, eqb, arith}
use Rattle.std.specs.Bool.{Decides}
use Rattle.std.proofs.lemmas.Bool.Decides.{nat_tests}
use Rattle.field_theory.specs.Sums.{total, one_if}
use Rattle.counting_theory.specs.Ranks.{IsRank, candidate, right, wrong}

corner_number : (a b c d : ℕ) → a ≤ b → b ≤ a + 1 → a ≤ c → c ≤ a + 1 → b ≤ d → d ≤ b + 1 → c ≤ d → d ≤ c + 1 → b + c ≤ d + a → one_if ((eqb b a && eqb c a) && not (eqb d a)) + (b + c) ≡ d + a
corner_number a b c d h1 h2 h3 h4 h5 h6 h7 h8 h9 = grind (arith, nat_tests)

-- the fourth corner tells a wrong candidate
pub wrong_adds : {n : ℕ} {R : ℕ → ℕ → ℕ} (k : IsRank n R) (i j : ℕ) → i < n → j < n → one_if (wrong R i j) + (R (i + 1) j + R i (j + 1)) ≡ R (i + 1) (j + 1) + R i j
unfolding wrong candidate
wrong_adds {R = R} k i j hi hj =
    corner_number (R i j) (R (i + 1) j) (R i (j + 1)) (R (i + 1) (j + 1))
    (k.row i j hi (omega arith)).0 (k.row i j hi (omega arith)).1
    (k.column i j (omega arith) hj).0 (k.column i j (omega arith) hj).1
    (k.column (i + 1) j (omega arith) hj).0 (k.column (i + 1) j (omega arith) hj).1
    (k.row i (j + 1) hi (omega arith)).0 (k.row i (j + 1) hi (omega arith)).1
    (k.corner i j hi hj)

-- what row i adds to the rank of the columns below j is the number of wrong candidates there
pub row_adds : {n : ℕ} {R : ℕ → ℕ → ℕ} (k : IsRank n R) (i j : ℕ) → i < n → j ≤ n → total j (λ c. one_if (wrong R i c)) + R i j ≡ R (i + 1) j
row_adds k i zero hi hj = omega (arith, k.no_columns i (omega arith), k.no_columns (i + 1) (omega arith))
row_adds k i (suc j) hi hj = grind (arith, row_adds k i j hi (omega arith), wrong_adds k i j hi (omega arith))

pub column_adds : {n : ℕ} {R : ℕ → ℕ → ℕ} (k : IsRank n R) (i j : ℕ) → i ≤ n → j < n → total i (λ r. one_if (wrong R r j)) + R i j ≡ R i (j + 1)
column_adds k zero j hi hj = omega (arith, k.no_rows j (omega arith), k.no_rows (j + 1) (omega arith))
column_adds k (suc i) j hi hj = grind (arith, column_adds k i j (omega arith) hj, wrong_adds k i j (omega arith) hj)

-- the rank of a part is the number of wrong candidates in it
pub rank_counts : {n : ℕ} {R : ℕ → ℕ → ℕ} (k : IsRank n R) (i j : ℕ) → i ≤ n → j ≤ n → total i (λ r. total j (λ c. one_if (wrong R r c))) ≡ R i j
rank_counts k zero j hi hj = omega (arith, k.no_rows j hj)
rank_counts k (suc i) j hi hj = grind (arith, rank_counts k i j (omega arith) hj, row_adds k i j (omega arith) hj)

-- ---- what the three tests say
flat_number : (a b c : ℕ) → Decides (eqb b a && eqb c a) ((b ≡ a) × (c ≡ a))
flat_number a b c = grind (arith, nat_tests)

right_number : (a b c d : ℕ) → Decides ((eqb b a && eqb c a) && eqb d a) ((b ≡ a) × (c ≡ a) × (d ≡ a))
right_number a b c d = grind (arith, nat_tests)

wrong_number : (a b c d : ℕ) → Decides ((eqb b a && eqb c a) && not (eqb d a)) ((b ≡ a) × (c ≡ a) × (d ≢ a))
wrong_number a b c d = grind (arith, nat_tests)

pub Decides-candidate : (R : ℕ → ℕ → ℕ) (i j : ℕ) → Decides (candidate R i j) ((R (i + 1) j ≡ R i j) × (R i (j + 1) ≡ R i j))
unfolding candidate
Decides-candidate R i j = flat_number _ _ _

pub Decides-right : (R : ℕ → ℕ → ℕ) (i j : ℕ) → Decides (right R i j) ((R (i + 1) j ≡ R i j) × (R i (j + 1) ≡ R i j) × (R (i + 1) (j + 1) ≡ R i j))
unfolding right candidate
Decides-right R i j = right_number _ _ _ _

pub Decides-wrong : (R : ℕ → ℕ → ℕ) (i j : ℕ) → Decides (wrong R i j) ((R (i + 1) j ≡ R i j) × (R i (j + 1) ≡ R i j) × (R (i + 1) (j + 1) ≢ R i j))
unfolding wrong candidate
Decides-wrong R i j = wrong_number _ _ _ _

-- two rank functions with the same three smaller ranks at (i, j) have the same candidate there
pub candidate_same : (R Q : ℕ → ℕ → ℕ) (i j : ℕ) → R i j ≡ Q i j → R (i + 1) j ≡ Q (i + 1) j → R i (j + 1) ≡ Q i (j + 1) → candidate R i j ≡ candidate Q i j
unfolding candidate
candidate_same R Q i j e f g = cc

pub wrong_same : (R Q : ℕ → ℕ → ℕ) (i j : ℕ) → R i j ≡ Q i j → R (i + 1) j ≡ Q (i + 1) j → R i (j + 1) ≡ Q i (j + 1) → R (i + 1) (j + 1) ≡ Q (i + 1) (j + 1) → wrong R i j ≡ wrong Q i j
unfolding wrong candidate
wrong_same R Q i j e f g h = cc
