-- IsSchedule       a list of the indices below n in any order, each once
-- change_at        a list with one element changed
-- after_acts       the slots after one act for each index of a list, one act after the other
-- GivesEachAct     the slots after every schedule
use Rattle.std.specs.Prelude.{ℕ, zero, suc, ◌≡◌, ◌<◌, List, [], ◌∷◌, length, count_by, eqb, All}

pub record IsSchedule (n : ℕ) (order : List ℕ) : Type 0 where
  pub within : All (λ k. k < n) order
  pub each_once : (k : ℕ) → k < n → count_by (λ x. eqb x k) order ≡ 1

unfoldable pub change_at : {S : Type 0} → (S → S) → ℕ → List S → List S
change_at f k [] = []
change_at f zero (x ∷ xs) = f x ∷ xs
change_at f (suc k) (x ∷ xs) = x ∷ change_at f k xs

-- one step is one whole act on one slot
unfoldable pub after_acts : {S : Type 0} → (ℕ → S → S) → List ℕ → List S → List S
after_acts after [] slots = slots
after_acts after (k ∷ order) slots = after_acts after order (change_at (after k) k slots)

-- whatever the schedule, the slots are the new ones
abbrev pub EveryScheduleGives : {S : Type 0} → (ℕ → S → S) → List S → List S → Type 0
EveryScheduleGives after old new = (order : List ℕ) → IsSchedule (length old) order → after_acts after order old ≡ new
