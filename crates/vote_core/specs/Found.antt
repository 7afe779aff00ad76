-- IsOnlyError    err is an error of y of weight at most t, and the only one
-- IsFar          y has no such error, and err is all 0
-- IsAnswer       what each answer of the decoder says
use Rattle.std.specs.Prelude.{ℕ, ◌≡◌, Bool, List, All}
use Rattle.order_theory.specs.Basis.{Basis, times}
use Rattle.order_theory.specs.Course.{IsErrorOf}
use Rattle.vote_core.specs.declared.voter.Found.{Found}
use Rattle.vote_core.specs.declared.voter.Found.TheVariants.{Error, Far}

pub record IsOnlyError (b : Basis) (marks : List Bool) (t : ℕ) (y err : List ℕ) : Type 0 where
  pub is_error : IsErrorOf (times b) b marks t y err
  pub only : (e : List ℕ) → IsErrorOf (times b) b marks t y e → e ≡ err

pub record IsFar (b : Basis) (marks : List Bool) (t : ℕ) (y err : List ℕ) : Type 0 where
  pub none : (e : List ℕ) → IsErrorOf (times b) b marks t y e → ⊥
  pub zeros : All (λ x. x ≡ 0) err

abbrev pub IsAnswer : Basis → List Bool → ℕ → List ℕ → List ℕ → Found → Type 0
IsAnswer b marks t y err Error = IsOnlyError b marks t y err
IsAnswer b marks t y err Far = IsFar b marks t y err
