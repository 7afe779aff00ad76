-- kept            what a row keeps of the reduced pivot rows: each times the factor that the row has for it, in one column
-- HasPivots       the pivots, their reduced rows and the factors fit together
-- IsReduction     the reduced rows and what the rows keep are those of a matrix, as far as it is known
use Rattle.std.specs.Prelude.{◌≡◌, ◌≢◌, ℕ, ◌<◌, ◌≤◌, bit_xor, ltb}
use Rattle.field_theory.specs.Sums.{xor_sum, count_below}

-- R t is the reduced row of pivot number t, and F i t the factor that row i has for it; row i has factors below `span i`
abbrev pub kept : (ℕ → ℕ → ℕ) → (ℕ → ℕ) → (ℕ → ℕ → ℕ) → (ℕ → ℕ → ℕ) → ℕ → ℕ → ℕ
kept mul span F R i j = xor_sum (span i) (λ t. mul (F i t) (R t j))

-- Row i of n rows is known on its first `known i` columns, and no row further than the rows above it. k pivots are found.
-- Row i has its pivot in column `pivot i`, which is n where it has none. The pivot of column j is the one of number
-- `number j`, which is n where there is none. The pivot of number t stands in row `rows t`, and `inverse t` is the inverse
-- of what the reduced row has there. A row has factors of the pivots above it alone, and a pivot row only of those that
-- were found before it.
pub record HasPivots (mul : ℕ → ℕ → ℕ) (n k : ℕ) (F R : ℕ → ℕ → ℕ) (span known pivot number rows inverse : ℕ → ℕ) : Type 0 where
  pub tally : count_below n (λ i. ltb (pivot i) n) ≡ k
  pub width : (i : ℕ) → i < n → known i ≤ n
  pub falls : (p q : ℕ) → p ≤ q → q < n → known q ≤ known p
  pub inside : (i : ℕ) → i < n → pivot i < n → pivot i < known i
  pub numbered : (i : ℕ) → i < n → pivot i < n → (number (pivot i) < k) × (rows (number (pivot i)) ≡ i)
  pub column : (j : ℕ) → j < n → number j < n → (number j < k) × (rows (number j) < n) × (pivot (rows (number j)) ≡ j)
  pub own : (t : ℕ) → t < k → (rows t < n) × (pivot (rows t) < n) × (number (pivot (rows t)) ≡ t)
  pub spans : (i : ℕ) → i < n → span i ≤ k
  pub own_span : (t : ℕ) → t < k → span (rows t) ≤ t
  pub above : (i t : ℕ) → i < n → t < span i → F i t ≢ 0 → rows t < i
  pub zeros : (t j : ℕ) → t < k → j < pivot (rows t) → R t j ≡ 0
  pub lead : (t : ℕ) → t < k → mul (R t (pivot (rows t))) (inverse t) ≡ 1

-- As far as S is known, the reduced row of a pivot is its row and what the row keeps, and before its pivot a row is what
-- it keeps
pub record IsReduction (mul : ℕ → ℕ → ℕ) (n k : ℕ) (S F R : ℕ → ℕ → ℕ) (span known pivot rows : ℕ → ℕ) : Type 0 where
  pub pivot_rows : (t j : ℕ) → t < k → j < known (rows t) → R t j ≡ bit_xor (S (rows t) j) (kept mul span F R (rows t) j)
  pub before : (i j : ℕ) → i < n → j < known i → j < pivot i → S i j ≡ kept mul span F R i j
