-- A loop that writes the chosen items of a list into rows, one after the other.
use Rattle.std.proofs.Common.{◌≡◌, ℕ, zero, suc, ◌+◌, ◌<◌, ◌≤◌, Bool, true, false, List, [], ◌∷◌, ◌++◌, length, take, drop, get_or, length-set, refl, sym, ◌∙◌, ap, arith, add-one}
use Rattle.std.proofs.Math.ListN.{set, drop_of_length-le}
use Rattle.std.proofs.Math.Seq.{take-suc-set}
use Rattle.std.proofs.lemmas.List.{length-append, length-take-le, take_all, append_assoc, append-nil}
use Rattle.order_theory.specs.Codes.{marked}
use Rattle.block_theory.specs.Marked.{chosen}
use Rattle.block_theory.proofs.Choosing.{set_marks, length-chosen}

rest-set : {X : Type 0} (ms : List Bool) (xs : List X) (k : ℕ) (d : X) → length ms ≡ length xs → k < length ms → marked ms k ≡ true → chosen (drop k ms) (drop k xs) ≡ get_or xs k d ∷ chosen (drop (suc k) ms) (drop (suc k) xs)
rest-set [] xs k d e l m = absurd (omega arith)
rest-set (m ∷ ms) [] k d e l h = absurd (omega arith)
rest-set (true ∷ ms) (x ∷ xs) zero d e l h = refl
rest-set (false ∷ ms) (x ∷ xs) zero d e l h = absurd (cc)
rest-set (m ∷ ms) (x ∷ xs) (suc k) d e l h = rest-set ms xs k d (omega arith) (omega arith) h

rest-clear : {X : Type 0} (ms : List Bool) (xs : List X) (k : ℕ) → length ms ≡ length xs → k < length ms → marked ms k ≡ false → chosen (drop k ms) (drop k xs) ≡ chosen (drop (suc k) ms) (drop (suc k) xs)
rest-clear [] xs k e l m = absurd (omega arith)
rest-clear (m ∷ ms) [] k e l h = absurd (omega arith)
rest-clear (true ∷ ms) (x ∷ xs) zero e l h = absurd (cc)
rest-clear (false ∷ ms) (x ∷ xs) zero e l h = refl
rest-clear (m ∷ ms) (x ∷ xs) (suc k) e l h = rest-clear ms xs k (omega arith) (omega arith) h

-- the first rows are the items chosen so far
pub record IsCollected {X : Type 0} (ms : List Bool) (xs rows : List X) (k next : ℕ) : Type 0 where
  pub within : next ≤ length rows
  pub all : take next rows ++ chosen (drop k ms) (drop k xs) ≡ chosen ms xs

pub collected_start : {X : Type 0} (ms : List Bool) (xs rows : List X) → IsCollected ms xs rows 0 0
collected_start ms xs rows = record { within = omega arith; all = refl }

module _ {X : Type 0} (ms : List Bool) (xs rows : List X) (k next : ℕ) (same : length ms ≡ length xs) (size : length rows ≡ set_marks ms) (h : IsCollected ms xs rows k next) where
  pub collected_room : (d : X) → k < length ms → marked ms k ≡ true → next < length rows
  collected_room d l m =
      let rest : List X = chosen (drop (suc k) ms) (drop (suc k) xs) in
      let within : next ≤ length rows = h.within in
      let whole : length (chosen ms xs) ≡ set_marks ms = length-chosen ms xs same in
      let parts : length (take next rows ++ (get_or xs k d ∷ rest)) ≡ length (chosen ms xs) =
      ap length (ap (λ (r : List X). take next rows ++ r) (sym (rest-set ms xs k d same l m)) ∙ h.all) in
      let split : length (take next rows ++ (get_or xs k d ∷ rest)) ≡ length (take next rows) + suc (length rest) = length-append (take next rows) (get_or xs k d ∷ rest) in
      let front : length (take next rows) ≡ next = length-take-le next rows within in
      omega arith

  pub collected_more : (d : X) → k < length ms → marked ms k ≡ true → IsCollected ms xs (set rows next (get_or xs k d)) (k + 1) (next + 1)
  collected_more d l m =
      let room : next < length rows = collected_room d l m in
      let long : length (set rows next (get_or xs k d)) ≡ length rows = length-set rows next (get_or xs k d) in
      let rest : List X = chosen (drop (suc k) ms) (drop (suc k) xs) in record {
        within = omega arith;
        all =
            rw (add-one k, add-one next)
            (ap (λ (r : List X). r ++ rest) (take-suc-set rows next (get_or xs k d) room)
            ∙ append_assoc (take next rows) (get_or xs k d ∷ []) rest
            ∙ ap (λ (r : List X). take next rows ++ r) (sym (rest-set ms xs k d same l m))
            ∙ h.all);
      }

  pub collected_same : k < length ms → marked ms k ≡ false → IsCollected ms xs rows (k + 1) next
  collected_same l m = record { within = h.within; all = rw (add-one k) (ap (λ (r : List X). take next rows ++ r) (sym (rest-clear ms xs k same l m)) ∙ h.all) }

  pub collected_end : length ms ≤ k → rows ≡ chosen ms xs
  collected_end l =
      let within : next ≤ length rows = h.within in
      let none : take next rows ≡ chosen ms xs =
      sym (append-nil (take next rows))
      ∙ ap (λ (r : List Bool). take next rows ++ chosen r (drop k xs)) (sym (drop_of_length-le ms l))
      ∙ h.all in
      let whole : length (chosen ms xs) ≡ set_marks ms = length-chosen ms xs same in
      let front : length (take next rows) ≡ next = length-take-le next rows within in
      let full : length rows ≤ next = omega (arith, ap length none) in
      sym (take_all next rows full) ∙ none
