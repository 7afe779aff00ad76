-- when         a value where a test holds, and else none
-- first_of     the first of a list of values that may be there
-- least        the least number below a bound that passes a test, or none
use Rattle.std.specs.Prelude.{ℕ, zero, suc, Bool, List, [], ◌∷◌, Option, Some, None, if◌then◌else◌}
use Rattle.std.specs.Option.{option_or}

abbrev pub when : {A : Type 0} → Bool → A → Option A
when test x = if test then Some x else None

abbrev pub first_of : {A : Type 0} → List (Option A) → Option A
first_of [] = None
first_of (x ∷ xs) = option_or x (first_of xs)

abbrev pub least : ℕ → (ℕ → Bool) → Option ℕ
least zero test = None
least (suc n) test = option_or (least n test) (when (test n) n)
