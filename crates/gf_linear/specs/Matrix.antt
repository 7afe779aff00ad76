-- Matrix        what contracts see of a matrix: its number of columns and its rows
-- row           row i of a matrix, the empty list past the last row
-- entry         the entry at row i, column j, which is 0 outside of the matrix
-- IsMatrix      what holds of each matrix: its size, and that each row has an entry for each column
-- IsOver        the entries are symbols of a field of these bits
-- zero_matrix   the matrix of this size whose entries are 0
-- with_row      the matrix with another row i
-- with_entry    the matrix with another entry at row i, column j
-- matrix_of     the matrix whose entries are stored row by row in a list
use Rattle.std.specs.Prelude.{◌≡◌, ℕ, ◌<◌, ◌≤◌, ◌^◌, List, [], length, replicate, slice_index, slice_index_or, slice_set}
use Rattle.linear_theory.specs.Tables.{rows_of}

pub record Matrix : Type 0 where
  pub cols : ℕ
  pub rows : List (List ℕ)

abbrev pub row : Matrix → ℕ → List ℕ
row m i = slice_index_or m.rows i []

abbrev pub entry : Matrix → ℕ → ℕ → ℕ
entry m i j = slice_index (row m i) j

pub record IsMatrix (m : Matrix) : Type 0 where
  pub few_rows : length m.rows ≤ 1024
  pub few_cols : m.cols ≤ 2048
  pub width : (i : ℕ) → i < length m.rows → length (row m i) ≡ m.cols

pub record IsOver (bits : ℕ) (m : Matrix) : Type 0 where
  pub below : (i j : ℕ) → entry m i j < 2 ^ bits

abbrev pub zero_matrix : ℕ → ℕ → Matrix
zero_matrix rows cols = record { cols = cols; rows = replicate rows (replicate cols 0) }

abbrev pub with_row : Matrix → ℕ → List ℕ → Matrix
with_row m i r = record m { rows = slice_set m.rows i r }

abbrev pub with_entry : Matrix → ℕ → ℕ → ℕ → Matrix
with_entry m i j v = with_row m i (slice_set (row m i) j v)

abbrev pub matrix_of : ℕ → ℕ → List ℕ → Matrix
matrix_of rows cols m = record { cols = cols; rows = rows_of rows cols m }
