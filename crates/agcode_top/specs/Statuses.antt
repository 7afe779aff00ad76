-- OnWords        what the words ask for, where they are a command line, is such that this holds
-- OnCommand      .. where they ask for this command, this holds
-- is_streamed    whether a command encodes or decodes the input as it comes
-- reads_input    whether a command reads its input
-- IsOwn          a status that a command ends with once its descriptor is accepted and its memory taken
-- tells_report   whether a command writes on report before the line of its status
-- TellsMore      .. and with this status has done so
-- has_text       whether a command that ends with a status by its own work has written a text on out
-- is_passing     whether a status says that the input passes a limit
-- is_ahead       .. or comes while more of an encoded text, or of a file to encode, is being taken
-- reads_ahead    whether a command that ends so may have tried to take bytes behind those that it speaks of
-- CanSay         the statuses that a command ends with by its own work
-- CanStop        the statuses of what stops a command
-- CanEnd         all statuses that a command can end with
-- IsAnswer       a status by which a command that writes one text says its answer
-- IsRead         a status of a reading
-- IsEarly        a status before which nothing of the input was taken
-- IsQuiet        a status after which a command that writes one text has given nothing on out
use Rattle.std.specs.Prelude.{◌≡◌, ℕ, List, Bool, true, false, ◌⊎◌, if◌then◌else◌}
use Rattle.command_words.specs.declared.words.Command.{Command}
use Rattle.command_words.specs.declared.words.Command.TheVariants.{Member, Points, Params, Bound, Check}
use Rattle.command_words.specs.declared.words.Command.TheVariants.{Encode, Decode, Votes, Trial, Erase, Design}
use Rattle.command_words.specs.declared.words.Words.{Words}
use Rattle.command_words.specs.Lines.{IsCommandLine}
use Rattle.code_descriptor.specs.declared.DescCause.{DescCause}
use Rattle.agcode_top.specs.declared.status.Status.{Status}
use Rattle.agcode_top.specs.declared.status.Status.TheVariants.{Done, NotCodeword, Beyond, Ragged, Framing}
use Rattle.agcode_top.specs.declared.status.Status.TheVariants.{TableRefused, WordLength, Usage, Descriptor}
use Rattle.agcode_top.specs.declared.status.Status.TheVariants.{Salvaged, BadMark, NoCodeword, Ambiguous, NoDesign}
use Rattle.agcode_top.specs.declared.status.Status.TheVariants.{TooLong, DescFault, InputFault, OutFault}
use Rattle.agcode_top.specs.declared.status.Status.TheVariants.{ReportFault, NoMemory}

abbrev pub OnWords : List (List ℕ) → (Words → Type 0) → Type 0
OnWords texts P = (w : Words) → IsCommandLine texts w → P w

abbrev pub OnCommand : List (List ℕ) → Command → Type 0 → Type 0
OnCommand texts command P = OnWords texts (λ w. w.command ≡ command → P)

abbrev pub is_streamed : Command → Bool
is_streamed Encode = true
is_streamed Decode = true
is_streamed _ = false

abbrev pub reads_input : Command → Bool
reads_input Points = false
reads_input Params = false
reads_input Bound = false
reads_input Trial = false
reads_input Design = false
reads_input _ = true

abbrev pub tells_report : Command → Bool
tells_report Decode = true
tells_report Erase = true
tells_report _ = false

abbrev pub IsOwn : Status → Type 0
IsOwn Usage = ⊥
IsOwn (Descriptor cause) = ⊥
IsOwn DescFault = ⊥
IsOwn NoMemory = ⊥
IsOwn _ = Unit {0}

abbrev pub TellsMore : Command → Status → Type 0
TellsMore Decode status = IsOwn status
TellsMore Erase Done = Unit {0}
TellsMore Erase ReportFault = Unit {0}
TellsMore _ status = ⊥

abbrev pub has_text : Status → Bool
has_text Done = true
has_text NotCodeword = true
has_text _ = false

abbrev pub is_passing : Status → Bool
is_passing (TooLong taken) = true
is_passing _ = false

abbrev pub is_ahead : Status → Bool
is_ahead (TooLong taken) = true
is_ahead (Beyond group word) = true
is_ahead OutFault = true
is_ahead ReportFault = true
is_ahead _ = false

abbrev pub reads_ahead : Command → Status → Bool
reads_ahead command status = if is_streamed command then is_ahead status else is_passing status

abbrev pub CanSay : Status → Command → Type 0
CanSay Done command = Unit {0}
CanSay NotCodeword command = command ≡ Member
CanSay (Beyond group word) command = (command ≡ Decode) ⊎ (command ≡ Votes)
CanSay (Ragged extra) command = command ≡ Decode
CanSay Framing command = command ≡ Decode
CanSay (TableRefused line) command = command ≡ Check
CanSay (WordLength taken) command = (command ≡ Member) ⊎ (command ≡ Votes) ⊎ (command ≡ Erase)
CanSay Salvaged command = command ≡ Decode
CanSay (BadMark place) command = command ≡ Erase
CanSay NoCodeword command = command ≡ Erase
CanSay (Ambiguous place) command = command ≡ Erase
CanSay (NoDesign most) command = command ≡ Design
CanSay (TooLong taken) command = (command ≡ Check) ⊎ (command ≡ Encode) ⊎ (command ≡ Decode)
CanSay _ command = ⊥

abbrev pub CanStop : Status → Command → Type 0
CanStop (Descriptor cause) command = Unit {0}
CanStop DescFault command = Unit {0}
CanStop InputFault command = reads_input command ≡ true
CanStop OutFault command = Unit {0}
CanStop ReportFault command = tells_report command ≡ true
CanStop NoMemory command = Unit {0}
CanStop _ command = ⊥

abbrev pub CanEnd : Status → Command → Type 0
CanEnd status command = CanSay status command ⊎ CanStop status command

abbrev pub IsAnswer : Status → Type 0
IsAnswer Usage = ⊥
IsAnswer (Descriptor cause) = ⊥
IsAnswer DescFault = ⊥
IsAnswer InputFault = ⊥
IsAnswer OutFault = ⊥
IsAnswer ReportFault = ⊥
IsAnswer NoMemory = ⊥
IsAnswer _ = Unit {0}

abbrev pub IsRead : Status → Type 0
IsRead Done = Unit {0}
IsRead (Beyond group word) = Unit {0}
IsRead (Ragged extra) = Unit {0}
IsRead Framing = Unit {0}
IsRead _ = ⊥

abbrev pub IsEarly : Status → Type 0
IsEarly status = (status ≡ Usage) ⊎ (status ≡ DescFault) ⊎ ((cause : DescCause) × (status ≡ Descriptor cause))

abbrev pub IsQuiet : Status → Type 0
IsQuiet status = (has_text status ≡ false) × (status ≡ OutFault → ⊥) × (status ≡ ReportFault → ⊥)
