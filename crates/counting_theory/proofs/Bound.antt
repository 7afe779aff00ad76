-- The order bound: where the matrix is 0 at all smaller sums and not at sum r, its rank is at least the number of pairs.
use Rattle.std.proofs.Common.{ℕ, zero, suc, ◌+◌, ◌≡◌, ◌<◌, ◌≤◌, Bool, true, ◌&&◌, not, eqb, arith, add-one, eqb-true}
use Rattle.std.proofs.lemmas.Bool.Decides.{nat_tests}
use Rattle.field_theory.specs.Sums.{one_if}
use Rattle.counting_theory.specs.Ranks.{IsRank, candidate, wrong}
use Rattle.counting_theory.specs.Votes.{IsSum, IsFirstSum, pairs}
use Rattle.field_theory.proofs.Totals.{count-le-count}
use Rattle.counting_theory.proofs.Votes.{some_wrong}

wrong_at_zero : (a b c d : ℕ) → a ≡ 0 → b ≡ 0 → c ≡ 0 → 0 < d → ((eqb b a && eqb c a) && not (eqb d a)) ≡ true
wrong_at_zero a b c d p q r h = grind (arith, nat_tests)

row_zero : {n count r : ℕ} {R sum_at : ℕ → ℕ → ℕ} → IsRank n R → IsSum n count sum_at → IsFirstSum n R sum_at r → r < count → (i j : ℕ) → i < n → j < n → sum_at i j ≡ r → R (i + 1) j ≡ 0
row_zero k s z hr i zero hi hj e = k.no_columns (i + 1) (omega arith)
row_zero k s z hr i (suc j) hi hj e =
    let before = z.zero_before i j hi (omega arith) (omega (arith, s.rises i (suc j) i j hi hj (omega arith) (omega arith) (omega arith) (omega arith))) in
    rw (add-one j) at before

column_zero : {n count r : ℕ} {R sum_at : ℕ → ℕ → ℕ} → IsRank n R → IsSum n count sum_at → IsFirstSum n R sum_at r → r < count → (i j : ℕ) → i < n → j < n → sum_at i j ≡ r → R i (j + 1) ≡ 0
column_zero k s z hr zero j hi hj e = k.no_rows (j + 1) (omega arith)
column_zero k s z hr (suc i) j hi hj e =
    let before = z.zero_before i j (omega arith) hj (omega (arith, s.rises (suc i) j i j hi hj (omega arith) (omega arith) (omega arith) (omega arith))) in
    rw (add-one i) at before

at_first : {n count r : ℕ} {R sum_at : ℕ → ℕ → ℕ} → IsRank n R → IsSum n count sum_at → IsFirstSum n R sum_at r → r < count → (i j : ℕ) → i < n → j < n → sum_at i j ≡ r → wrong R i j ≡ true
unfolding wrong candidate
at_first {R = R} k s z hr i j hi hj e =
    let below : R (i + 1) j ≡ 0 = row_zero k s z hr i j hi hj e in
    let beside : R i (j + 1) ≡ 0 = column_zero k s z hr i j hi hj e in
    wrong_at_zero (R i j) (R (i + 1) j) (R i (j + 1)) (R (i + 1) (j + 1)) (omega (arith, k.row i j hi (omega arith))) below beside (z.first_at i j hi hj e)

pub pairs-le-rank : {n count r : ℕ} {R sum_at : ℕ → ℕ → ℕ} → IsRank n R → IsSum n count sum_at → IsFirstSum n R sum_at r → r < count → pairs n sum_at r ≤ R n n
unfolding pairs
pairs-le-rank {n} {count} {r} {R} {sum_at} k s z hr =
    omega (
      arith,
      some_wrong k (λ i j. eqb (sum_at i j) r),
      count-le-count n (λ i j. eqb (sum_at i j) r) (λ i j. eqb (sum_at i j) r && wrong R i j)
          (λ i j hi hj. go (eqb (sum_at i j) r) (wrong R i j) (λ e. at_first k s z hr i j hi hj (eqb-true (sum_at i j) r e))),
    )
  where
    go : (e x : Bool) → (e ≡ true → x ≡ true) → one_if e ≤ one_if (e && x)
    go e x f = grind arith
