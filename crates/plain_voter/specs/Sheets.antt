-- AreEntries    a list holds the first entries of one row of the matrix of a working list
-- IsTableOf     a matrix holds the entries of a working list in its first rows
-- table_rank    the rank of the first p rows and q columns of a matrix
-- IsSheet       a square matrix of symbols, and room for its parts
-- IsSheetOf     the matrix of a working list, and room for its parts
use Rattle.std.specs.Prelude.{◌≡◌, ℕ, ◌<◌, ◌≤◌, ◌^◌, List, length, slice_index}
use Rattle.gf_theory.specs.Field.{gf_mul}
use Rattle.linear_theory.specs.Linear.{rank}
use Rattle.gf_linear.specs.Matrix.{Matrix, IsOver, entry as entry_in}
use Rattle.order_theory.specs.Basis.{Basis, times}
use Rattle.order_theory.specs.Errors.{entry}
use Rattle.plain_voter.specs.declared.sheet.Sheet.{Sheet}

pub record AreEntries (b : Basis) (w : List ℕ) (i : ℕ) (row : List ℕ) (count : ℕ) : Type 0 where
  pub long : length row ≡ count
  pub at : (j : ℕ) → j < count → slice_index row j ≡ entry (times b) b w i j

pub record IsTableOf (b : Basis) (w : List ℕ) (m : Matrix) (rows : ℕ) : Type 0 where
  pub n_rows : length m.rows ≡ b.n
  pub n_cols : m.cols ≡ b.n
  pub over : IsOver b.bits m
  pub at : (i j : ℕ) → i < rows → j < b.n → entry_in m i j ≡ entry (times b) b w i j

abbrev pub table_rank : ℕ → ℕ → Matrix → ℕ → ℕ → ℕ
table_rank bits modulus m p q = rank (2 ^ bits) (gf_mul bits modulus) q (entry_in m) p

pub record IsSheet (bits : ℕ) (sheet : Sheet) : Type 0 where
  pub few : sheet.table.cols ≤ 1024
  pub square : length sheet.table.rows ≡ sheet.table.cols
  pub room_rows : length sheet.room.rows ≡ sheet.table.cols
  pub room_cols : sheet.room.cols ≡ sheet.table.cols
  pub over : IsOver bits sheet.table

pub record IsSheetOf (b : Basis) (w : List ℕ) (sheet : Sheet) : Type 0 where
  pub table : IsTableOf b w sheet.table b.n
  pub room_rows : length sheet.room.rows ≡ b.n
  pub room_cols : sheet.room.cols ≡ b.n
