-- The two bounds on the vote at one index, and the majority.
use Rattle.std.proofs.Common.{ℕ, ◌+◌, ◌*◌, ◌≡◌, ◌<◌, ◌≤◌, ◌∙◌, Bool, true, false, cond, ◌&&◌, not, eqb, ltb, refl, arith, le_trans, eqb-true}
use Rattle.std.proofs.lemmas.Bool.Decides.{nat_tests}
use Rattle.field_theory.specs.Sums.{total, one_if, count_pairs}
use Rattle.counting_theory.specs.Ranks.{IsRank, candidate, right, wrong}
use Rattle.counting_theory.specs.Votes.{IsSum, pairs, candidates, right_votes, wrong_votes, pivots}
use Rattle.field_theory.proofs.Totals.{total_same, total-add, total-le-total, total_prefix, total_swap, total_once, total-le-four, count-le-count, count-add, count_same}
use Rattle.counting_theory.proofs.Ranks.{row_adds, column_adds, rank_counts}

-- the wrong candidates of all positions are as many as the rank of the whole
pub all_wrong : {n : ℕ} {R : ℕ → ℕ → ℕ} → IsRank n R → count_pairs n (wrong R) ≡ R n n
unfolding count_pairs
all_wrong {n} k = rank_counts k n n (omega arith) (omega arith)

-- those among the positions that a test picks are at most as many
pub some_wrong : {n : ℕ} {R : ℕ → ℕ → ℕ} → IsRank n R → (p : ℕ → ℕ → Bool) → count_pairs n (λ i j. p i j && wrong R i j) ≤ R n n
some_wrong {n} {R} k p = omega (arith, all_wrong k, count-le-count n (λ i j. p i j && wrong R i j) (wrong R) (λ i j hi hj. and_le (p i j) (wrong R i j)))
  where
    and_le : (x y : Bool) → one_if (x && y) ≤ one_if y
    and_le true y = omega arith
    and_le false y = omega arith

pub pivots-add-wrong : {n : ℕ} {R : ℕ → ℕ → ℕ} → IsRank n R → (sum_at : ℕ → ℕ → ℕ) (r : ℕ) → pivots n R sum_at r + wrong_votes n R sum_at r ≤ R n n
unfolding pivots wrong_votes
pivots-add-wrong {n} {R} k sum_at r = omega (arith, all_wrong k, count-add n (λ i j. ltb (sum_at i j) r && wrong R i j) (λ i j. eqb (sum_at i j) r && wrong R i j) (wrong R) (λ i j hi hj. apart (sum_at i j) (wrong R i j)))
  where
    apart : (s : ℕ) (y : Bool) → one_if (ltb s r && y) + one_if (eqb s r && y) ≤ one_if y
    apart s y = grind (arith, nat_tests)

-- a pair of one sum that is no candidate lies behind a pivot in its row or in its column
vote_number : (a b c d x y : ℕ) → x + a ≡ b → y + a ≡ c → 1 ≤ one_if ((eqb b a && eqb c a) && eqb d a) + one_if ((eqb b a && eqb c a) && not (eqb d a)) + x + y
vote_number a b c d x y e f = grind (arith, nat_tests)

-- the pivots of row i, and those of column j
abbrev row_pivots : ℕ → (ℕ → ℕ → ℕ) → (ℕ → ℕ → ℕ) → ℕ → ℕ → ℕ
row_pivots n R sum_at r i = total n (λ c. one_if (ltb (sum_at i c) r && wrong R i c))

abbrev column_pivots : ℕ → (ℕ → ℕ → ℕ) → (ℕ → ℕ → ℕ) → ℕ → ℕ → ℕ
column_pivots n R sum_at r j = total n (λ q. one_if (ltb (sum_at q j) r && wrong R q j))

below : (s r : ℕ) (y : Bool) → s < r → one_if y ≤ one_if (ltb s r && y)
below s r y h = grind (arith, nat_tests)

in_row : {n count : ℕ} {R sum_at : ℕ → ℕ → ℕ} → IsRank n R → IsSum n count sum_at → (r i j : ℕ) → r < count → i < n → j < n → sum_at i j ≡ r → total j (λ c. one_if (wrong R i c)) ≤ row_pivots n R sum_at r i
in_row {n} {count} {R} {sum_at} k s r i j hr hi hj e =
    le_trans
    (total-le-total j (λ c. one_if (wrong R i c)) (λ c. one_if (ltb (sum_at i c) r && wrong R i c))
    (λ c l. below (sum_at i c) r (wrong R i c) (omega (arith, s.rises i j i c hi hj (omega arith) (omega arith) (omega arith) (omega arith)))))
    (total_prefix j n (λ c. one_if (ltb (sum_at i c) r && wrong R i c)) (omega arith))

in_column : {n count : ℕ} {R sum_at : ℕ → ℕ → ℕ} → IsRank n R → IsSum n count sum_at → (r i j : ℕ) → r < count → i < n → j < n → sum_at i j ≡ r → total i (λ q. one_if (wrong R q j)) ≤ column_pivots n R sum_at r j
in_column {n} {count} {R} {sum_at} k s r i j hr hi hj e =
    le_trans
    (total-le-total i (λ q. one_if (wrong R q j)) (λ q. one_if (ltb (sum_at q j) r && wrong R q j))
    (λ q l. below (sum_at q j) r (wrong R q j) (omega (arith, s.rises i j q j hi hj (omega arith) (omega arith) (omega arith) (omega arith)))))
    (total_prefix i n (λ q. one_if (ltb (sum_at q j) r && wrong R q j)) (omega arith))

at_pair : {n count : ℕ} {R sum_at : ℕ → ℕ → ℕ} → IsRank n R → IsSum n count sum_at → (r i j : ℕ) → r < count → i < n → j < n →
    one_if (eqb (sum_at i j) r) ≤ one_if (eqb (sum_at i j) r && right R i j) + one_if (eqb (sum_at i j) r && wrong R i j) + cond (eqb (sum_at i j) r) (row_pivots n R sum_at r i) 0 + cond (eqb (sum_at i j) r) (column_pivots n R sum_at r j) 0
unfolding right wrong candidate
at_pair {n} {count} {R} {sum_at} k s r i j hr hi hj = go (eqb (sum_at i j) r) refl
  where
    go : (e : Bool) → eqb (sum_at i j) r ≡ e → one_if e ≤ one_if (e && right R i j) + one_if (e && wrong R i j) + cond e (row_pivots n R sum_at r i) 0 + cond e (column_pivots n R sum_at r j) 0
    go false e = omega arith
    go true e =
        let same : sum_at i j ≡ r = eqb-true (sum_at i j) r e in
        omega (
          arith,
          vote_number (R i j) (R (i + 1) j) (R i (j + 1)) (R (i + 1) (j + 1)) _ _ (row_adds k i j hi (omega arith)) (column_adds k i j (omega arith) hj),
          in_row k s r i j hr hi hj same,
          in_column k s r i j hr hi hj same,
        )

-- in a row, and in a column, at most one pair has a given sum
pub once_in_row : {n count : ℕ} {sum_at : ℕ → ℕ → ℕ} → IsSum n count sum_at → (r i c : ℕ) → r < count → i < n → total n (λ j. cond (eqb (sum_at i j) r) c 0) ≤ c
once_in_row {n} {count} {sum_at} s r i c hr hi = total_once n c (λ j. eqb (sum_at i j) r) (λ j l h hl e f. omega (arith, eqb-true (sum_at i j) r e, eqb-true (sum_at i l) r f, s.rises i l i j hi hl (omega arith) (omega arith) (omega arith)))

pub once_in_column : {n count : ℕ} {sum_at : ℕ → ℕ → ℕ} → IsSum n count sum_at → (r j c : ℕ) → r < count → j < n → total n (λ i. cond (eqb (sum_at i j) r) c 0) ≤ c
once_in_column {n} {count} {sum_at} s r j c hr hj = total_once n c (λ i. eqb (sum_at i j) r) (λ i l h hl e f. omega (arith, eqb-true (sum_at i j) r e, eqb-true (sum_at l j) r f, s.rises l j i j hl hj (omega arith) (omega arith) (omega arith)))

pub pairs-le : {n count : ℕ} {R sum_at : ℕ → ℕ → ℕ} → IsRank n R → IsSum n count sum_at → (r : ℕ) → r < count → pairs n sum_at r ≤ right_votes n R sum_at r + wrong_votes n R sum_at r + 2 * pivots n R sum_at r
unfolding pairs right_votes wrong_votes pivots count_pairs
pairs-le {n} {count} {R} {sum_at} k s r hr =
    omega (
      arith,
      total-le-four n
          (λ i. total n (λ j. one_if (eqb (sum_at i j) r)))
          (λ i. total n (λ j. one_if (eqb (sum_at i j) r && right R i j)))
          (λ i. total n (λ j. one_if (eqb (sum_at i j) r && wrong R i j)))
          (λ i. total n (λ j. cond (eqb (sum_at i j) r) (row_pivots n R sum_at r i) 0))
          (λ i. total n (λ j. cond (eqb (sum_at i j) r) (column_pivots n R sum_at r j) 0))
          (λ i hi. total-le-four n _ _ _ _ _ (λ j hj. at_pair k s r i j hr hi hj)),
      total-le-total n (λ i. total n (λ j. cond (eqb (sum_at i j) r) (row_pivots n R sum_at r i) 0)) (row_pivots n R sum_at r) (λ i hi. once_in_row s r i (row_pivots n R sum_at r i) hr hi),
      total_swap n n (λ i j. cond (eqb (sum_at i j) r) (column_pivots n R sum_at r j) 0),
      total-le-total n (λ j. total n (λ i. cond (eqb (sum_at i j) r) (column_pivots n R sum_at r j) 0)) (column_pivots n R sum_at r) (λ j hj. once_in_column s r j (column_pivots n R sum_at r j) hr hj),
      total_swap n n (λ i j. one_if (ltb (sum_at i j) r && wrong R i j)),
    )

-- where twice a bound on the rank is below the number of pairs, the right candidates are more than the wrong ones
pub right_wins : {n count : ℕ} {R sum_at : ℕ → ℕ → ℕ} → IsRank n R → IsSum n count sum_at → (w r : ℕ) → R n n ≤ w → r < count → 2 * w < pairs n sum_at r → wrong_votes n R sum_at r < right_votes n R sum_at r
right_wins {sum_at = sum_at} k s w r hw hr h = omega (arith, pairs-le k s r hr, pivots-add-wrong k sum_at r)

-- each candidate is right or wrong
pub candidates_split : (n : ℕ) (R sum_at : ℕ → ℕ → ℕ) (r : ℕ) → candidates n R sum_at r ≡ right_votes n R sum_at r + wrong_votes n R sum_at r
unfolding candidates right_votes wrong_votes count_pairs right wrong
candidates_split n R sum_at r =
    total_same n _ _
    (λ i l. total_same n _ _ (λ j m. parts (eqb (sum_at i j) r) (candidate R i j) (eqb (R (i + 1) (j + 1)) (R i j)))
    ∙ total-add n (λ j. one_if (eqb (sum_at i j) r && (candidate R i j && eqb (R (i + 1) (j + 1)) (R i j)))) (λ j. one_if (eqb (sum_at i j) r && (candidate R i j && not (eqb (R (i + 1) (j + 1)) (R i j))))))
    ∙ total-add n (λ i. total n (λ j. one_if (eqb (sum_at i j) r && (candidate R i j && eqb (R (i + 1) (j + 1)) (R i j))))) (λ i. total n (λ j. one_if (eqb (sum_at i j) r && (candidate R i j && not (eqb (R (i + 1) (j + 1)) (R i j))))))
  where
    parts : (a b c : Bool) → one_if (a && b) ≡ one_if (a && (b && c)) + one_if (a && (b && not c))
    parts a b c = grind arith

-- where all ranks are 0, each pair is a right candidate
pub right_of_zeros : (n : ℕ) (R sum_at : ℕ → ℕ → ℕ) (r : ℕ) → ((i j : ℕ) → R i j ≡ 0) → right_votes n R sum_at r ≡ pairs n sum_at r
unfolding right_votes pairs right candidate
right_of_zeros n R sum_at r z =
    count_same n (λ i j. eqb (sum_at i j) r && right R i j) (λ i j. eqb (sum_at i j) r)
    (λ i j l m. all_zero (eqb (sum_at i j) r) (R (i + 1) j) (R i (j + 1)) (R (i + 1) (j + 1)) (R i j) (z (i + 1) j) (z i (j + 1)) (z (i + 1) (j + 1)) (z i j))
  where
    all_zero : (t : Bool) (a b c d : ℕ) → a ≡ 0 → b ≡ 0 → c ≡ 0 → d ≡ 0 → one_if (t && ((eqb a d && eqb b d) && eqb c d)) ≡ one_if t
    all_zero t a b c d e f g h = grind (arith, nat_tests)
