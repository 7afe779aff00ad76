-- HasPivot            a column is among the first k pivots of a reduced form
-- IsZeroSum           a list of symbols that solves the homogeneous equations whose left sides are the rows
-- HasSolutionAt       such a list that is 1 at column j and 0 at each column after it
-- SolutionsLaw        a free column, which adds nothing to the rank of the columns before it, so that the reduced form has
--                     no pivot there, has a solution of the homogeneous equations that ends there; and past the last free
--                     column all solutions are the same
--
-- All over a field `size`, `mul`; the words are those of linear_theory.
use Rattle.std.specs.Prelude.{◌≡◌, ℕ, ◌<◌, ◌≤◌}
use Rattle.linear_theory.specs.Linear.{dot, IsFree, IsSolution}
use Rattle.linear_theory.specs.Laws.{AreSymbols}

abbrev pub HasPivot : (ℕ → ℕ) → ℕ → ℕ → Type 0
HasPivot pivots k j = (t : ℕ) × (t < k) × (pivots t ≡ j)

-- of the rows the first r count, and their first n entries
pub record IsZeroSum (size : ℕ) (mul : ℕ → ℕ → ℕ) (n : ℕ) (rows : ℕ → ℕ → ℕ) (r : ℕ) (x : ℕ → ℕ) : Type 0 where
  pub symbols : (q : ℕ) → q < n → x q < size
  pub zero : (i : ℕ) → i < r → dot mul n (rows i) x ≡ 0

pub record HasSolutionAt (size : ℕ) (mul : ℕ → ℕ → ℕ) (n : ℕ) (rows : ℕ → ℕ → ℕ) (r : ℕ) (j : ℕ) : Type 0 where
  pub solution : ℕ → ℕ
  pub solves : IsZeroSum size mul n rows r solution
  pub one : solution j ≡ 1
  pub zero_after : (q : ℕ) → j < q → q < n → solution q ≡ 0

-- no column from `start` on is free; with start 0 the equations have one solution at most
pub record SolutionsLaw (size : ℕ) (mul : ℕ → ℕ → ℕ) : Type 0 where
  pub at_free : (n : ℕ) (rows : ℕ → ℕ → ℕ) (r j : ℕ) → AreSymbols size rows → j < n → IsFree size mul rows r j
      → HasSolutionAt size mul n rows r j
  pub zero_past_free : (n : ℕ) (rows : ℕ → ℕ → ℕ) (r start : ℕ) (x : ℕ → ℕ) → AreSymbols size rows
      → ((q : ℕ) → start ≤ q → q < n → IsFree size mul rows r q → ⊥) → IsZeroSum size mul n rows r x
      → (q : ℕ) → start ≤ q → q < n → x q ≡ 0
  pub same_past_free : (n : ℕ) (rows : ℕ → ℕ → ℕ) (r start : ℕ) (x z : ℕ → ℕ) → AreSymbols size rows
      → ((q : ℕ) → start ≤ q → q < n → IsFree size mul rows r q → ⊥) → ((q : ℕ) → q < n → x q < size)
      → ((q : ℕ) → q < n → z q < size) → IsSolution mul n rows r x → IsSolution mul n rows r z
      → (q : ℕ) → start ≤ q → q < n → x q ≡ z q
