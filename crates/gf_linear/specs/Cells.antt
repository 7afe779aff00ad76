-- cell       the entry at row i, column j of a matrix that is stored row by row in one list
-- AreKept    the rows for which P holds are the same in both matrices
-- AreLanes   32 lanes are the values of a function from a number on
use Rattle.std.specs.Prelude.{ℕ, ◌≡◌, ◌+◌, ◌*◌, ◌<◌, List, length, slice_index}

abbrev pub cell : List ℕ → ℕ → ℕ → ℕ → ℕ
cell m cols i j = slice_index m (i * cols + j)

pub record AreKept (rows cols : ℕ) (P : ℕ → Type 0) (m after : List ℕ) : Type 0 where
  pub same : (q : ℕ) → q < rows → P q → (p : ℕ) → p < cols → cell after cols q p ≡ cell m cols q p

pub record AreLanes (f : ℕ → ℕ) (at : ℕ) (lanes : List ℕ) : Type 0 where
  pub width : length lanes ≡ 32
  pub value : (i : ℕ) → i < 32 → slice_index lanes i ≡ f (at + i)
