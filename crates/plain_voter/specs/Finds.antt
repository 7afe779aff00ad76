-- IsFind      the error of a received list of weight at most t, which is the only one, and the lines of its votes
-- IsAnswer    what each answer of the plain voter says
use Rattle.std.specs.Prelude.{ℕ, ◌≡◌, Bool, List, Option, Some, None}
use Rattle.order_theory.specs.Basis.{Basis, times}
use Rattle.order_theory.specs.Course.{IsErrorOf}
use Rattle.plain_voter.specs.Lines.{lines_below}
use Rattle.plain_voter.specs.declared.plain.PlainFind.{PlainFind}

pub record IsFind (b : Basis) (marks : List Bool) (t : ℕ) (y : List ℕ) (find : PlainFind) : Type 0 where
  pub is_error : IsErrorOf (times b) b marks t y find.err.items
  pub only : (e : List ℕ) → IsErrorOf (times b) b marks t y e → e ≡ find.err.items
  pub votes : find.lines.items ≡ lines_below b marks find.err.items b.n

abbrev pub IsAnswer : Basis → List Bool → ℕ → List ℕ → Option PlainFind → Type 0
IsAnswer b marks t y None = (e : List ℕ) → IsErrorOf (times b) b marks t y e → ⊥
IsAnswer b marks t y (Some find) = IsFind b marks t y find
