-- Sums of members, and the counts of the vote at one index.
use Rattle.std.specs.Prelude.{ℕ, ◌+◌, ◌≡◌, ◌<◌, ◌≤◌, ◌&&◌, eqb, ltb}
use Rattle.field_theory.specs.Sums.{count_pairs}
use Rattle.counting_theory.specs.Ranks.{candidate, right, wrong}

-- A partial sum of the members below n: `sum_at i j` is an index below count, or a number from count up where
-- there is no sum. Where there is one, a smaller pair has a smaller one.
pub record IsSum (n count : ℕ) (sum_at : ℕ → ℕ → ℕ) : Type 0 where
  pub rises : (i j i' j' : ℕ) → i < n → j < n → i' ≤ i → j' ≤ j → i' + j' < i + j → sum_at i j < count → sum_at i' j' < sum_at i j

-- the first sum at which a matrix with the ranks R has entries that are not 0 is r, and there all are not 0
pub record IsFirstSum (n : ℕ) (R sum_at : ℕ → ℕ → ℕ) (r : ℕ) : Type 0 where
  pub zero_before : (i j : ℕ) → i < n → j < n → sum_at i j < r → R (i + 1) (j + 1) ≡ 0
  pub first_at : (i j : ℕ) → i < n → j < n → sum_at i j ≡ r → 0 < R (i + 1) (j + 1)

-- the number of pairs whose sum is r
unfoldable pub pairs : ℕ → (ℕ → ℕ → ℕ) → ℕ → ℕ
pairs n sum_at r = count_pairs n (λ i j. eqb (sum_at i j) r)

-- the number of candidates whose sum is r
unfoldable pub candidates : ℕ → (ℕ → ℕ → ℕ) → (ℕ → ℕ → ℕ) → ℕ → ℕ
candidates n R sum_at r = count_pairs n (λ i j. eqb (sum_at i j) r && candidate R i j)

-- the number of right candidates whose sum is r
unfoldable pub right_votes : ℕ → (ℕ → ℕ → ℕ) → (ℕ → ℕ → ℕ) → ℕ → ℕ
right_votes n R sum_at r = count_pairs n (λ i j. eqb (sum_at i j) r && right R i j)

-- the number of wrong candidates whose sum is r
unfoldable pub wrong_votes : ℕ → (ℕ → ℕ → ℕ) → (ℕ → ℕ → ℕ) → ℕ → ℕ
wrong_votes n R sum_at r = count_pairs n (λ i j. eqb (sum_at i j) r && wrong R i j)

-- the number of wrong candidates whose sum is a smaller index than r
unfoldable pub pivots : ℕ → (ℕ → ℕ → ℕ) → (ℕ → ℕ → ℕ) → ℕ → ℕ
pivots n R sum_at r = count_pairs n (λ i j. ltb (sum_at i j) r && wrong R i j)
