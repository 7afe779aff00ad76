-- IsWordFault    why no word of n bytes was read: a fault, want of memory, or an input of another length
-- AnswersText    a text was written, and the status is the one that was handed in
-- FailsAtText    .. or a write failed, and a front was written
-- LeavesText     one of these
-- SaysOf         what the checks of a text say of it: it is the table, with the bound, or the line at which one fails
use Rattle.std.specs.Prelude.{◌≡◌, ◌≢◌, ℕ, ◌+◌, ◌≤◌, min, List, length, IsTrue, ◌⊎◌}
use Rattle.order_bound.specs.declared.table.TableSays.{TableSays}
use Rattle.order_bound.specs.declared.table.TableSays.TheVariants.{Accepted, Refused}
use Rattle.code_descriptor.specs.Parts.{Parts}
use Rattle.descriptor_code.specs.Plain.{bound}
use Rattle.descriptor_code.specs.Tables.{IsTable}
use Rattle.agcode_top.specs.Commands.{RefusesTable}
use Rattle.agcode_top.specs.declared.status.Status.{Status}
use Rattle.agcode_top.specs.declared.status.Status.TheVariants.{WordLength, InputFault, OutFault, NoMemory}
use Rattle.agcode_top.specs.Calls.{SourceCall, SinkCall, TakesJust, TakesAtMost, ReadFailed, ReadsWell}
use Rattle.agcode_top.specs.Calls.{Writes, StopsAt}

abbrev pub IsWordFault : ℕ → SourceCall → Status → Type 0
IsWordFault n input NoMemory = input.after ≡ input.before
IsWordFault n input InputFault = ReadFailed input × TakesAtMost (n + 1) input
IsWordFault n input (WordLength taken) =
    (IsTrue input.tells → (length input.before.left ≢ n) × (taken ≡ min (length input.before.left) (n + 1)))
    × TakesJust taken input × (taken ≤ n + 1) × ReadsWell input
IsWordFault n input _ = ⊥

pub record AnswersText (out : SinkCall) (text : List ℕ) (status result : Status) : Type 0 where
  pub same : result ≡ status
  pub written : Writes out text

pub record FailsAtText (out : SinkCall) (text : List ℕ) (result : Status) : Type 0 where
  pub stopped : result ≡ OutFault
  pub written : StopsAt out text

abbrev pub LeavesText : SinkCall → List ℕ → Status → Status → Type 0
LeavesText out text status result = AnswersText out text status result ⊎ FailsAtText out text result

abbrev pub SaysOf : Parts → List ℕ → TableSays → Type 0
SaysOf p text (Accepted least) = IsTable p text × (least ≡ bound p)
SaysOf p text (Refused line) = RefusesTable p text line
