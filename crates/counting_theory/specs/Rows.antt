-- Ranks from the dependence of rows.
use Rattle.std.specs.Prelude.{ℕ, ◌+◌, ◌≡◌, ◌<◌, Bool, true, false, not}
use Rattle.field_theory.specs.Sums.{total, one_if}

-- `dep i j` stands for: in the first j columns row i is a combination of the rows above it. In a matrix with m rows and
-- n columns it has these three properties.
pub record IsDependence (m n : ℕ) (dep : ℕ → ℕ → Bool) : Type 0 where
  pub no_columns : (i : ℕ) → i < m → dep i 0 ≡ true
  pub fewer : (i j : ℕ) → i < m → j < n → dep i (j + 1) ≡ true → dep i j ≡ true
  -- one more column frees at most one row: that row, less its combination, is 0 but in the new column, and so mends
  -- the combination of each later row
  pub once : (i k j : ℕ) → i < k → k < m → j < n → dep i j ≡ true → dep i (j + 1) ≡ false → dep k j ≡ true → dep k (j + 1) ≡ true

-- the number of rows above i that are free in the first j columns
unfoldable pub free_rows : (ℕ → ℕ → Bool) → ℕ → ℕ → ℕ
free_rows dep i j = total i (λ a. one_if (not (dep a j)))
