-- The lines of a group, codeword by codeword, as they are told.
-- place_changes  the changes from a block to a codeword at its first n places, by the numbers of its group and its
--                codeword
-- lines_at       the lines of a block with this near
-- lines_from     the lines of the blocks of a group, from codeword number `word` on
-- told_by        the lines of a slot with this verdict
-- slot_lines     the lines of the slots of a group, from codeword number `word` on
use Rattle.std.specs.Prelude.{ℕ, ◌+◌, not, nat_eq, List, [], ◌∷◌, ◌++◌, map, filter, slice_index, Option, Some, None}
use Rattle.std.specs.List.{range_with_len}
use Rattle.stored_form.specs.Reading.{Change}
use Rattle.stored_form.specs.Salvage.{Line, Changed, Lost}
use Rattle.coded_block.specs.declared.Verdict.{Verdict}
use Rattle.coded_block.specs.declared.Verdict.TheVariants.{Near, Beyond}
use Rattle.stream_codec.specs.Slots.{SlotState}

abbrev pub place_changes : ℕ → ℕ → ℕ → List ℕ → List ℕ → List Change
place_changes n group word y c = map
    (λ p. record { group = group; word = word; place = p; old = slice_index y p; new = slice_index c p })
    (filter (λ p. not (nat_eq (slice_index y p) (slice_index c p))) (range_with_len 0 n))

abbrev pub lines_at : (n group word : ℕ) → List ℕ → Option (List ℕ) → List Line
lines_at n group word y (Some c) = map Changed (place_changes n group word y c)
lines_at n group word y None = Lost group word ∷ []

abbrev pub lines_from : (n : ℕ) (near : List ℕ → Option (List ℕ)) (group word : ℕ) → List (List ℕ) → List Line
lines_from n near group word [] = []
lines_from n near group word (y ∷ ys) = lines_at n group word y (near y) ++ lines_from n near group (word + 1) ys

abbrev pub told_by : (n group word : ℕ) → (got codeword : List ℕ) → Verdict → List Line
told_by n group word got codeword (Near changes) = map Changed (place_changes n group word got codeword)
told_by n group word got codeword Beyond = Lost group word ∷ []

abbrev pub slot_lines : (n group word : ℕ) → List SlotState → List Line
slot_lines n group word [] = []
slot_lines n group word (s ∷ slots) = told_by n group word s.got s.word s.verdict ++ slot_lines n group (word + 1) slots
