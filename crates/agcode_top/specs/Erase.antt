-- word_in           the bytes of a word: the first n of an input
-- marks_in          the marks of its positions, which follow
-- lost_in           which positions of the word in an input are
-- filled_lines      what is told of a word that was filled in: each lost position with its symbol, and their number
-- IsMarkedWord      an input is a word and a mark for each position, 0 or 1
-- IsOtherLength     an input is longer or shorter than a word and its marks; what was taken of it
-- SaysErase         how erase ends, with the filled word on out and its lines on report
-- IsFillable        an input is a word and its marks, and one codeword has the symbols that are not lost
use Rattle.std.specs.Prelude.{◌≡◌, ◌≢◌, ℕ, ◌+◌, ◌*◌, ◌≤◌, min, Bool, List, [], length, take, drop, All}
use Rattle.code_descriptor.specs.Parts.{Parts}
use Rattle.descriptor_code.specs.Plain.{checks, bound}
use Rattle.code_texts.specs.Texts.{filled_text_of}
use Rattle.erase_code.specs.Filling.{lost_count, IsOnlyFit, IsLeastDifference, HasNoFit}
use Rattle.erase_code.specs.Marks.{IsBadMark, lost_by, positions_of}
use Rattle.agcode_top.specs.declared.status.Status.{Status}
use Rattle.agcode_top.specs.declared.status.Status.TheVariants.{Done, WordLength, BadMark, NoCodeword, Ambiguous}

abbrev pub word_in : Parts → List ℕ → List ℕ
word_in p input = take (length p.points) input

abbrev pub marks_in : Parts → List ℕ → List ℕ
marks_in p input = drop (length p.points) input

abbrev pub lost_in : Parts → List ℕ → List Bool
lost_in p input = lost_by (marks_in p input)

abbrev pub filled_lines : Parts → List ℕ → List ℕ → List ℕ
filled_lines p input word = filled_text_of (positions_of (lost_in p input)) word

pub record IsMarkedWord (p : Parts) (input : List ℕ) : Type 0 where
  pub long : length input ≡ 2 * length p.points
  pub marks : All (λ m. m ≤ 1) (marks_in p input)

pub record IsOtherLength (p : Parts) (input : List ℕ) (taken : ℕ) : Type 0 where
  pub other : length input ≢ 2 * length p.points
  pub taken_is : taken ≡ min (length input) (2 * length p.points + 1)

-- an answer for each status, in the order in which they are found out
pub data SaysErase (p : Parts) (input : List ℕ) (status : Status) (text told : List ℕ) : Type 0 where
  word_length : (taken : ℕ) → status ≡ WordLength taken → IsOtherLength p input taken
      → text ≡ [] → told ≡ [] → SaysErase p input status text told
  bad_mark : (place : ℕ) → status ≡ BadMark place → length input ≡ 2 * length p.points
      → IsBadMark (marks_in p input) place → text ≡ [] → told ≡ [] → SaysErase p input status text told
  no_codeword : status ≡ NoCodeword → IsMarkedWord p input
      → HasNoFit (checks p) (word_in p input) (lost_in p input) → text ≡ [] → told ≡ []
      → SaysErase p input status text told
  ambiguous : (place : ℕ) → status ≡ Ambiguous place → IsMarkedWord p input
      → IsLeastDifference (checks p) (word_in p input) (lost_in p input) place
      → bound p ≤ lost_count (lost_in p input) → text ≡ [] → told ≡ [] → SaysErase p input status text told
  filled : status ≡ Done → IsMarkedWord p input
      → IsOnlyFit (checks p) (word_in p input) (lost_in p input) text → told ≡ filled_lines p input text
      → SaysErase p input status text told

pub record IsFillable (p : Parts) (input : List ℕ) : Type 0 where
  pub marked : IsMarkedWord p input
  pub word : List ℕ
  pub only : IsOnlyFit (checks p) (word_in p input) (lost_in p input) word
