-- IsMirrorOf     the rows of a matrix are those of another in the opposite direction
-- HasPivots      a matrix is in reduced row echelon form, and these columns are its pivots
-- is_pivot       whether column j is among these pivots
-- free_places    the positions whose columns, counted from the last position down, are no pivots
-- IsUnitWord     a list that is 1 at position p, at a pivot of row t the entry of that row in the column of p, and else 0
use Rattle.std.specs.Prelude.{◌≡◌, ◌≢◌, ℕ, ◌-◌, ◌<◌, Bool, not, List, length, filter, slice_index, eqb, reverse}
use Rattle.std.specs.List.{range_with_len, list_any}
use Rattle.linear_theory.specs.Linear.{IsReduced}
use Rattle.gf_linear.specs.Matrix.{Matrix, row, entry}

-- Position p of a list of n is column n - 1 - p of a matrix whose rows were mirrored.

pub record IsMirrorOf (m mirror : Matrix) : Type 0 where
  pub cols : mirror.cols ≡ m.cols
  pub rows : length mirror.rows ≡ length m.rows
  pub each : (i : ℕ) → i < length m.rows → row mirror i ≡ reverse (row m i)

pub record HasPivots (e : Matrix) (pivots : List ℕ) : Type 0 where
  pub reduced : IsReduced e.cols (entry e) (length e.rows) (length pivots)
  pub are : (t : ℕ) → t < length pivots → reduced.pivots t ≡ slice_index pivots t

abbrev pub is_pivot : List ℕ → ℕ → Bool
is_pivot pivots j = list_any (λ q. eqb q j) pivots

abbrev pub free_places : ℕ → List ℕ → List ℕ
free_places n pivots = filter (λ p. not (is_pivot pivots (n - 1 - p))) (range_with_len 0 n)

pub record IsUnitWord (e : Matrix) (pivots : List ℕ) (n p : ℕ) (word : List ℕ) : Type 0 where
  pub width : length word ≡ n
  pub one : slice_index word p ≡ 1
  pub at_pivots : (t : ℕ) → t < length pivots → slice_index word (n - 1 - slice_index pivots t) ≡ entry e t (n - 1 - p)
  pub elsewhere : (q : ℕ) → q < n → q ≢ p → ((t : ℕ) → t < length pivots → slice_index pivots t ≢ n - 1 - q) → slice_index word q ≡ 0
