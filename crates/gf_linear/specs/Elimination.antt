-- IsEchelonOf     a matrix is the reduced row echelon form of another
-- AreDependent    some combination of the rows of a matrix is 0 though not all of its factors are 0
-- IsDualOf        row i of a matrix has product 1 with row i of another and product 0 with each other row
-- IsSolution      a list solves the equations whose left sides are the rows of a matrix
-- HasFreeZeros    a list is 0 at each place that has no pivot in the reduced row echelon form
-- beside_unit     a matrix with the unit matrix to its right
-- beside_column   a matrix with a column to its right
-- plus_multiple   a list plus a multiple of another
-- residue_of      the sum of the entries of a row at the pivots, each times the entry of a pivot's row in a column
use Rattle.std.specs.Prelude.{◌≡◌, ℕ, ◌-◌, ◌<◌, ◌^◌, List, [], ◌∷◌, length, drop, slice_index, bit_xor, All, cond, nat_lt}
use Rattle.field_theory.specs.Sums.{xor_sum, unit}
use Rattle.gf_theory.specs.Field.{gf_mul}
use Rattle.linear_theory.specs.Linear.{dot, AreIndependent, SameSpan, IsReduced, IsDual, IsFree}
use Rattle.gf_linear.specs.Matrix.{Matrix, entry, IsOver}

pub record IsEchelonOf (bits modulus : ℕ) (m e : Matrix) : Type 0 where
  pub same_cols : e.cols ≡ m.cols
  pub same_rows : length e.rows ≡ length m.rows
  -- the number of rows that are not 0
  pub count : ℕ
  pub reduced : IsReduced m.cols (entry e) (length m.rows) count
  pub span : SameSpan (gf_mul bits modulus) m.cols (entry m) (length m.rows) (entry e) (length m.rows)
  pub over : IsOver bits e

abbrev pub AreDependent : ℕ → ℕ → Matrix → Type 0
AreDependent bits modulus m = AreIndependent (2 ^ bits) (gf_mul bits modulus) m.cols (entry m) (length m.rows) → ⊥

pub record IsDualOf (bits modulus : ℕ) (m d : Matrix) : Type 0 where
  pub same_cols : d.cols ≡ m.cols
  pub same_rows : length d.rows ≡ length m.rows
  pub dual : IsDual (gf_mul bits modulus) m.cols (entry m) (entry d)
  pub over : IsOver bits d

pub record IsSolution (bits modulus : ℕ) (m : Matrix) (rhs x : List ℕ) : Type 0 where
  pub places : length x ≡ m.cols
  pub symbols : All (λ a. a < 2 ^ bits) x
  pub solves : (i : ℕ) → i < length m.rows → dot (gf_mul bits modulus) m.cols (entry m i) (slice_index x) ≡ slice_index rhs i

pub record HasFreeZeros (bits modulus : ℕ) (m : Matrix) (x : List ℕ) : Type 0 where
  pub at_free : (j : ℕ) → j < m.cols → IsFree (2 ^ bits) (gf_mul bits modulus) (entry m) (length m.rows) j → slice_index x j ≡ 0

abbrev pub beside_unit : (ℕ → ℕ → ℕ) → ℕ → ℕ → ℕ → ℕ
beside_unit rows n i p = cond (nat_lt p n) (rows i p) (unit i (p - n))

abbrev pub beside_column : (ℕ → ℕ → ℕ) → ℕ → (ℕ → ℕ) → ℕ → ℕ → ℕ
beside_column rows n rhs i p = cond (nat_lt p n) (rows i p) (rhs i)

abbrev pub residue_of : (ℕ → ℕ → ℕ) → ℕ → (ℕ → ℕ) → (ℕ → ℕ) → (ℕ → ℕ → ℕ) → ℕ → ℕ
residue_of mul k pivots row rows j = xor_sum k (λ t. mul (row (pivots t)) (rows t j))

abbrev pub plus_multiple : (ℕ → ℕ → ℕ) → ℕ → List ℕ → List ℕ → List ℕ
plus_multiple mul x [] ys = []
plus_multiple mul x (a ∷ xs) ys = bit_xor a (mul x (slice_index ys 0)) ∷ plus_multiple mul x xs (drop 1 ys)
