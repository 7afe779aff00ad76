-- What a call takes of a source.
-- IsSteady           a count of faults is as before
-- taken_from         the bytes that a source lost from its front
-- WereTaken          what was left of a source is what was taken from it and what is left
-- most_taken s l     the most bytes that are taken in pieces of s under a limit: the pieces within it, and one more
-- taken_past s l n   how many of n bytes are taken where more are left than the limit
use Rattle.std.specs.Prelude.{ℕ, ◌+◌, ◌-◌, ◌*◌, ◌/◌, ◌≡◌, ◌++◌, List, length, take, min}
use Rattle.ag_io.specs.Views.{SourceView}

abbrev pub IsSteady : (before after : ℕ) → Type 0
IsSteady before after = after ≡ before

abbrev pub taken_from : SourceView → SourceView → List ℕ
taken_from before after = take (length before.left - length after.left) before.left

abbrev pub WereTaken : SourceView → SourceView → Type 0
WereTaken before after = before.left ≡ taken_from before after ++ after.left

abbrev pub most_taken : (size limit : ℕ) → ℕ
most_taken size limit = (limit / size + 1) * size

abbrev pub taken_past : (size limit count : ℕ) → ℕ
taken_past size limit count = min count (most_taken size limit)
