-- falling           the lost positions below n, the greatest first
-- IsKeptPart        a list of symbols that is 0 at each lost position, and elsewhere the byte that was kept
-- AreEquations      a matrix of the equations that the symbols at the lost positions have to meet: a row for each check, a
--                   column for each lost position in falling order, and the right sides behind them
-- IsSolved          what the reduced form of equations says of their solutions
-- IsSolvedBy        with k pivots, at these columns
-- IsSolvedIn        where it has so many columns and rows
use Rattle.std.specs.Prelude.{◌≡◌, ℕ, zero, suc, ◌<◌, ◌^◌, ◌-◌, Bool, true, false, cond, List, [], ◌∷◌, length, slice_index, All}
use Rattle.linear_theory.specs.Linear.{dot, IsReduced}
use Rattle.solution_theory.specs.Solutions.{HasPivot}
use Rattle.block_theory.specs.Checks.{ParityChecks, times_of, check_at}
use Rattle.gf_linear.specs.Matrix.{Matrix, entry, IsOver}
use Rattle.erase_code.specs.Filling.{is_lost}
use Rattle.erase_code.specs.declared.solutions.Solutions.{Solutions}
use Rattle.erase_code.specs.declared.solutions.Solutions.TheVariants.{Nothing, One, Many}

unfoldable pub falling : List Bool → ℕ → List ℕ
falling lost zero = []
falling lost (suc p) = cond (is_lost lost p) (p ∷ falling lost p) (falling lost p)

pub record IsKeptPart (bits n : ℕ) (y : List ℕ) (lost : List Bool) (kept : List ℕ) : Type 0 where
  pub long : length kept ≡ n
  pub symbols : All (λ a. a < 2 ^ bits) kept
  pub at_lost : (p : ℕ) → p < n → is_lost lost p ≡ true → slice_index kept p ≡ 0
  pub at_kept : (p : ℕ) → p < n → is_lost lost p ≡ false → slice_index kept p ≡ slice_index y p

pub record AreEquations (c : ParityChecks) (places kept : List ℕ) (m : Matrix) : Type 0 where
  pub rows : length m.rows ≡ length c.vectors
  pub cols : m.cols ≡ suc (length places)
  pub over : IsOver c.bits m
  pub left : (i j : ℕ) → i < length c.vectors → j < length places → entry m i j ≡ check_at c i (slice_index places j)
  pub right : (i : ℕ) → i < length c.vectors
      → entry m i (length places) ≡ dot (times_of c) c.n (check_at c i) (slice_index kept)

-- of `width` columns before the right sides, in falling order of positions
abbrev pub IsSolvedBy : ℕ → ℕ → (ℕ → ℕ) → Solutions → Type 0
IsSolvedBy width k pivots Nothing = HasPivot pivots k width
IsSolvedBy width k pivots One =
    (HasPivot pivots k width → ⊥) × ((j : ℕ) → j < width → HasPivot pivots k j)
IsSolvedBy width k pivots (Many column) =
    (HasPivot pivots k width → ⊥) × (column < width) × (HasPivot pivots k column → ⊥)
    × ((j : ℕ) → column < j → j < width → HasPivot pivots k j)

abbrev pub IsSolvedIn : ℕ → ℕ → Matrix → Solutions → Type 0
IsSolvedIn cols rows e s = (k : ℕ) (h : IsReduced cols (entry e) rows k) → IsSolvedBy (cols - 1) k h.pivots s

abbrev pub IsSolved : Matrix → Solutions → Type 0
IsSolved e s = IsSolvedIn e.cols (length e.rows) e s
