-- IsInputFault    why an input was not read: want of memory, a fault whose count rose, or more bytes than the limit, of
--                 which so many were taken; where no read failed, these are all, but at most one piece more than the limit
-- IsFaultAt       a read failed after so many bytes, which are more than the limit or not
-- TookBytes       a piece of the input was added to a text
-- Took            .. of PIECE bytes, or of fewer at the end of the input; or so many bytes were taken before a read failed
-- TookPiece       at most PIECE bytes were taken, and no read failed
use Rattle.std.specs.Prelude.{◌≡◌, ℕ, ◌+◌, ◌<◌, ◌≤◌, ◌++◌, min, IsTrue, List, length}
use Rattle.agcode_top.specs.Calls.{SourceCall, IsEnded, TakesJust, TakesAtMost, ReadFailed, ReadsWell}
use Rattle.stream_codec.specs.declared.limits.TheConstants.{PIECE}
use Rattle.agcode_top.specs.declared.input.InputFault.{InputFault}
use Rattle.agcode_top.specs.declared.input.InputFault.TheVariants.{NoMemory, Fault, TooLong}
use Rattle.agcode_top.specs.declared.input.Tail.{Tail}
use Rattle.agcode_top.specs.declared.input.Tail.TheVariants as tail

abbrev pub IsInputFault : (limit : ℕ) → SourceCall → InputFault → Type 0
IsInputFault limit input NoMemory = TakesAtMost (limit + PIECE) input × ReadsWell input
IsInputFault limit input Fault = TakesAtMost (limit + PIECE) input × ReadFailed input
IsInputFault limit input (TooLong taken) =
    (limit < taken) × (taken ≤ limit + PIECE) × TakesJust taken input
    × (IsTrue input.tells → (ReadFailed input → ⊥) → taken ≡ min (length input.before.left) (limit + PIECE))

abbrev pub IsFaultAt : (limit taken : ℕ) → InputFault → Type 0
IsFaultAt limit taken NoMemory = ⊥
IsFaultAt limit taken Fault = taken ≤ limit
IsFaultAt limit taken (TooLong number) = (limit < taken) × (number ≡ taken)

pub record TookBytes (input : SourceCall) (text after : List ℕ) : Type 0 where
  pub piece : List ℕ
  pub left_is : IsTrue input.tells → input.before.left ≡ piece ++ input.after.left
  pub text_is : after ≡ text ++ piece
  pub well : ReadsWell input

abbrev pub Took : SourceCall → (text after : List ℕ) → Tail → Type 0
Took input text after tail.More = TookBytes input text after × (length after ≡ length text + PIECE)
Took input text after tail.End = TookBytes input text after × (length after < length text + PIECE) × IsEnded input
Took input text after (tail.Fault got) = (after ≡ text) × (got < PIECE) × TakesJust got input × ReadFailed input

abbrev pub TookPiece : SourceCall → Type 0
TookPiece input = TakesAtMost PIECE input × ReadsWell input
