-- StoresImage         encode: where all was done, out was given the image of the input, which was read to its end
-- HasImage            .. over a descriptor of these parts
-- Repairs             decode: a text that differs from the image of a file in at most as many stored symbols of each
--                     block as the radius is decoded to that file, where no count rose, or memory was wanting
-- Repaired            .. out was given the file, and report each position at which the input and the image of the file
--                     differ, and the done line
-- status_of_reading   the status of what a text is read as
-- ReadsText           decode: a status of a reading is that of the reading of the input
-- ReadAs              .. with what is sure of it on out, and on report its change lines, its done line and a line of
--                     the status, or a front of that line
-- IsTableText         an input within the limit that is the table of the order bound
-- IsFileText          an input within the limit that is read as a file
-- IsValid             the input is one that a command takes; of a design, some function at the points has more pairs than
--                     twice what is wanted
-- Completes           where no count rose, the descriptor is accepted and the input is valid, all was done or memory
--                     was wanting
-- RefusesBy           a descriptor is refused for its first cause
-- RefusesExactly      .. exactly where it has one, unless it could not be read or memory was wanting
-- AcceptsFirst        the descriptor of a command that ends by its own work, or by a fault on its way, is one that it accepts
-- OfText              a premise of the next ones: the command writes one text, and the descriptor and what it reads are
--                     told
-- Answers             a command that writes one text says its answer: what it is by the descriptor and the input, with
--                     its text on out, and on report what it tells there and the line of the status
-- AnswersOver         .. over a descriptor of these parts
-- AnswersPart         .. or was stopped by a fault of out: a front of that text was given, and not all of it
-- AnswersInPart       .. over a descriptor of these parts
-- AnswersUntold       .. or was stopped by a fault of report, after all of its text
-- AnswersInText       .. over a descriptor of these parts
-- Yields              the statuses that may come in place of this one, where it is what a command says
-- IsLike              the same status; where it passes a limit, with all that were left, but at most so many, or fewer
--                     where a read failed
-- AnswersExactly      a command that writes one text ends with what it says, or with a status to which that yields
-- EncodesAs           encode: all that is known of the input and out by the status that it ended with
-- EncodedOver         .. over a descriptor of these parts
-- DecodesAs           decode, where it ends at a lost codeword: all that is known of the input, out and report by the status that it ended with
-- DecodedOver         .. over a descriptor of these parts; the line of the status was told last
-- Rescues             decode that goes on past lost codewords: Salvaged comes only where a codeword is lost
-- RescuedOver         .. the input was read to its end, and what is kept of it is on out, its lines and last lines on report
-- SalvagesExactly     .. and wherever one is, unless memory was wanting, where no count rose and the input is within the
--                     limit
-- SalvagesAs          .. all that is known of the input, out and report by the status that it ended with
-- SalvagedOver        .. over a descriptor of these parts; the line of the status was told last
-- LeavesUntouched     Usage, DescFault, Descriptor, NoMemory: nothing was given on out; at the first three nothing was
--                     taken of the input, and at the first nothing of the descriptor; and no call of these failed
-- LeavesUnread        encode and decode: where memory was wanting, nothing was taken of the input
-- TellsLine           the line of the status and no other is told, or a front of it where the write failed, but by a
--                     command that tells more
-- TakesWithin         no command takes more of its input than it may
-- TellsNumber         a status that tells a number of bytes taken tells just that number
-- KeepsCounts         where a command did not end with a fault of a source or sink, no call of that one failed, but for
--                     the write of the last line, and for a read of bytes behind those that the status speaks of
use Rattle.std.specs.Prelude.{◌≡◌, ℕ, ◌<◌, ◌≤◌, List, [], ◌++◌, length, IsTrue, true, false, ◌⊎◌}
use Rattle.ag_io.specs.Views.{SinkView}
use Rattle.ag_texts.specs.Lines.{done_line_of}
use Rattle.stored_form.specs.Form.{Form}
use Rattle.stored_form.specs.Frame.{IsFile, image}
use Rattle.stored_form.specs.Reading.{Reading, File, group_count, blocks, reading, out as output}
use Rattle.stored_form.specs.Reading.{Beyond as ReadBeyond, Ragged as ReadRagged, Framing as ReadFraming}
use Rattle.stored_form.specs.Reading.{IsNearImage, differences}
use Rattle.stored_form.specs.Salvage.{lost_count, salvage_out}
use Rattle.stream_codec.specs.Report.{lines_of, lines, done}
use Rattle.stream_codec.specs.Salvaging.{salvage_report}
use Rattle.command_words.specs.declared.words.Command.{Command}
use Rattle.command_words.specs.declared.words.Command.TheVariants.{Member, Points, Params, Bound, Check}
use Rattle.command_words.specs.declared.words.Command.TheVariants.{Encode, Decode, Votes, Trial, Erase, Design}
use Rattle.command_words.specs.declared.words.Words.{Words}
use Rattle.block_theory.specs.Checks.{IsInCode}
use Rattle.code_descriptor.specs.declared.DescCause.{DescCause}
use Rattle.code_descriptor.specs.Parts.{Parts}
use Rattle.descriptor_code.specs.Plain.{checks, plain_form}
use Rattle.descriptor_code.specs.Tables.{IsTable}
use Rattle.descriptor_design.specs.Plans.{HasMany}
use Rattle.stream_codec.specs.declared.limits.TheConstants.{MOST_BYTES}
use Rattle.agcode_top.specs.declared.limit.TheConstants.{MOST_TABLE}
use Rattle.agcode_top.specs.declared.status.Status.{Status}
use Rattle.agcode_top.specs.declared.status.Status.TheVariants.{Done, Beyond, Ragged, Framing, Salvaged}
use Rattle.agcode_top.specs.declared.status.Status.TheVariants.{WordLength, TooLong}
use Rattle.agcode_top.specs.declared.status.Status.TheVariants.{Usage, Descriptor, DescFault, InputFault}
use Rattle.agcode_top.specs.declared.status.Status.TheVariants.{OutFault, ReportFault, NoMemory}
use Rattle.agcode_top.specs.Calls.{Call, SourceCall, SinkCall, once_given, until, since}
use Rattle.agcode_top.specs.Calls.{IsUntaken, IsUngiven, TakesJust, TakesAtMost, ReadsWell, WritesWell}
use Rattle.agcode_top.specs.Calls.{GivesText, Writes, StopsAt, GivesOrFails, NoneFailed}
use Rattle.agcode_top.specs.Statuses.{is_streamed, reads_input, tells_report, TellsMore, has_text, reads_ahead}
use Rattle.agcode_top.specs.Statuses.{IsAnswer, IsOwn, IsRead, IsEarly}
use Rattle.agcode_top.specs.Lines.{line_of}
use Rattle.agcode_top.specs.Erase.{IsFillable}
use Rattle.agcode_top.specs.Commands.{Accepts, Refuses, IsInputTold, IsNearCode, Says, TakesFor, PassesAt}
use Rattle.agcode_top.specs.Commands.{most_taken}
use Rattle.agcode_top.specs.Streams.{Encoded, Decoded, SalvagedText}

pub record HasImage (c : Call) : Type 0 where
  pub parts : Parts
  pub accepted : Accepts Encode c.desc.before.left parts
  pub ended : c.input.after.left ≡ []
  pub given : GivesText c.out (image (plain_form parts) c.input.before.left)

abbrev pub StoresImage : Call → Status → Type 0
StoresImage c status = status ≡ Done → IsTrue c.desc.tells → IsTrue c.input.tells → HasImage c

pub record Repaired (F : Form) (x : List ℕ) (input : SourceCall) (out report : SinkCall) : Type 0 where
  pub ended : input.after.left ≡ []
  pub given : GivesText out x
  pub told :
      let changes = differences F (blocks F input.before.left) (blocks F (image F x)) in
      GivesText report (lines_of changes
      ++ done_line_of (length x) (group_count F input.before.left) (length changes))

abbrev pub Repairs : Call → Status → Type 0
Repairs c status =
    IsTrue c.desc.tells → IsTrue c.input.tells → NoneFailed c →
    (p : Parts) (x : List ℕ) → Accepts Decode c.desc.before.left p → IsFile x →
    IsNearImage (plain_form p) x c.input.before.left → length c.input.before.left ≤ MOST_BYTES →
    ((status ≡ Done) × Repaired (plain_form p) x c.input c.out c.report) ⊎ (status ≡ NoMemory)

abbrev pub status_of_reading : Reading → Status
status_of_reading (File x) = Done
status_of_reading (ReadBeyond group word) = Beyond group word
status_of_reading (ReadRagged extra) = Ragged extra
status_of_reading ReadFraming = Framing

pub record ReadAs (c : Call) (status : Status) : Type 0 where
  pub parts : Parts
  pub accepted : Accepts Decode c.desc.before.left parts
  pub status_is : status ≡ status_of_reading (reading (plain_form parts) c.input.before.left)
  pub given : GivesText c.out (output (plain_form parts) c.input.before.left)
  pub told :
      let form = plain_form parts in
      let told = lines form c.input.before.left ++ done form c.input.before.left in
      GivesOrFails (once_given c.report told) (line_of status)

abbrev pub ReadsText : Call → Status → Type 0
ReadsText c status = IsRead status → IsTrue c.desc.tells → IsTrue c.input.tells → ReadAs c status

pub record IsTableText (p : Parts) (input : List ℕ) : Type 0 where
  pub within : length input ≤ MOST_TABLE
  pub table : IsTable p input

pub record IsFileText (p : Parts) (input : List ℕ) : Type 0 where
  pub within : length input ≤ MOST_BYTES
  pub file : List ℕ
  pub reads : reading (plain_form p) input ≡ File file

abbrev pub IsValid : Words → Command → Parts → List ℕ → Type 0
IsValid asked Member p input = IsInCode (checks p) input
IsValid asked Points p input = Unit {0}
IsValid asked Params p input = Unit {0}
IsValid asked Bound p input = Unit {0}
IsValid asked Check p input = IsTableText p input
IsValid asked Encode p input = length input ≤ MOST_BYTES
IsValid asked Decode p input = IsFileText p input
IsValid asked Votes p input = IsNearCode p input
IsValid asked Trial p input = Unit {0}
IsValid asked Erase p input = IsFillable p input
IsValid asked Design p input = HasMany p asked.want

abbrev pub Completes : Words → Call → Status → Type 0
Completes asked c status =
    IsTrue c.desc.tells → IsInputTold asked.command c.input.tells → NoneFailed c →
    (p : Parts) → Accepts asked.command c.desc.before.left p → IsValid asked asked.command p c.input.before.left →
    (status ≡ Done) ⊎ (status ≡ NoMemory)

abbrev pub RefusesBy : Command → SourceCall → Status → Type 0
RefusesBy command desc status = (cause : DescCause) → status ≡ Descriptor cause → IsTrue desc.tells →
    Refuses command desc.before.left cause

abbrev pub RefusesExactly : Command → SourceCall → Status → Type 0
RefusesExactly command desc status = (cause : DescCause) → IsTrue desc.tells → Refuses command desc.before.left cause →
    (status ≡ Descriptor cause) ⊎ (status ≡ DescFault) ⊎ (status ≡ NoMemory)

abbrev pub AcceptsFirst : Command → SourceCall → Status → Type 0
AcceptsFirst command desc status = IsOwn status → IsTrue desc.tells → (p : Parts) × Accepts command desc.before.left p

pub record AnswersOver (asked : Words) (c : Call) (status : Status) : Type 0 where
  pub parts : Parts
  pub accepted : Accepts asked.command c.desc.before.left parts
  pub text : List ℕ
  pub told : List ℕ
  pub says : Says asked asked.command parts c.input.before.left status text told
  pub taken : TakesFor asked.command status c.input
  pub passes : PassesAt (most_taken asked.command parts) c.input status
  pub written : Writes c.out text
  pub reported : GivesOrFails (once_given c.report told) (line_of status)

pub record AnswersInPart (asked : Words) (c : Call) : Type 0 where
  pub parts : Parts
  pub accepted : Accepts asked.command c.desc.before.left parts
  pub status : Status
  pub text : List ℕ
  pub told : List ℕ
  pub says : Says asked asked.command parts c.input.before.left status text told
  pub has : has_text status ≡ true
  pub taken : TakesFor asked.command status c.input
  pub written : StopsAt c.out text

pub record AnswersInText (asked : Words) (c : Call) : Type 0 where
  pub parts : Parts
  pub accepted : Accepts asked.command c.desc.before.left parts
  pub status : Status
  pub text : List ℕ
  pub told : List ℕ
  pub says : Says asked asked.command parts c.input.before.left status text told
  pub taken : TakesFor asked.command status c.input
  pub written : Writes c.out text
  pub reported : StopsAt c.report told

-- where a command writes one text, and the descriptor and the input are told, this holds
abbrev pub OfText : Words → Call → Type 0 → Type 0
OfText asked c P =
    is_streamed asked.command ≡ false → IsTrue c.desc.tells → IsInputTold asked.command c.input.tells → P

abbrev pub Answers : Words → Call → Status → Type 0
Answers asked c status = IsAnswer status → OfText asked c (AnswersOver asked c status)

abbrev pub AnswersPart : Words → Call → Status → Type 0
AnswersPart asked c status = status ≡ OutFault → OfText asked c (AnswersInPart asked c)

abbrev pub AnswersUntold : Words → Call → Status → Type 0
AnswersUntold asked c status = status ≡ ReportFault → OfText asked c (AnswersInText asked c)

abbrev pub Yields : Command → Status → Status → Type 0
Yields command said DescFault = Unit {0}
Yields command said NoMemory = Unit {0}
Yields command said InputFault = reads_input command ≡ true
Yields command said OutFault = has_text said ≡ true
Yields command said ReportFault = tells_report command ≡ true
Yields command said _ = ⊥

abbrev pub IsLike : (most : ℕ) → SourceCall → (said status : Status) → Type 0
IsLike most input said status =
    (status ≡ said)
    ⊎ ((taken other : ℕ) × (said ≡ TooLong taken) × (status ≡ TooLong other) × PassesAt most input (TooLong other))

abbrev pub AnswersExactly : Words → Call → Status → Type 0
AnswersExactly asked c status = OfText asked c (
    (p : Parts) (said : Status) (text told : List ℕ) → Accepts asked.command c.desc.before.left p →
    Says asked asked.command p c.input.before.left said text told →
    IsLike (most_taken asked.command p) c.input said status ⊎ Yields asked.command said status)

pub record EncodedOver (c : Call) (status : Status) : Type 0 where
  pub parts : Parts
  pub accepted : Accepts Encode c.desc.before.left parts
  pub encoded : Encoded parts c.input c.out status

abbrev pub EncodesAs : Call → Status → Type 0
EncodesAs c status = IsOwn status → IsTrue c.desc.tells → EncodedOver c status

pub record DecodedOver (c : Call) (status : Status) : Type 0 where
  pub parts : Parts
  pub accepted : Accepts Decode c.desc.before.left parts
  -- report before the line of the status
  pub told : SinkView
  pub counted : told.faults ≤ c.report.after.faults
  pub decoded : Decoded parts c.input c.out (until c.report told) status
  pub line : GivesOrFails (since c.report told) (line_of status)

abbrev pub DecodesAs : Call → Status → Type 0
DecodesAs c status = IsOwn status → IsTrue c.desc.tells → DecodedOver c status

pub record RescuedOver (c : Call) : Type 0 where
  pub parts : Parts
  pub accepted : Accepts Decode c.desc.before.left parts
  pub lost : 0 < lost_count (plain_form parts) c.input.before.left
  pub within : length c.input.before.left ≤ MOST_BYTES
  pub ended : c.input.after.left ≡ []
  pub given : GivesText c.out (salvage_out (plain_form parts) c.input.before.left)
  pub told : GivesText c.report (salvage_report (plain_form parts) c.input.before.left)

abbrev pub Rescues : Call → Status → Type 0
Rescues c status = status ≡ Salvaged → IsTrue c.desc.tells → IsTrue c.input.tells → RescuedOver c

abbrev pub SalvagesExactly : Call → Status → Type 0
SalvagesExactly c status =
    IsTrue c.desc.tells → IsTrue c.input.tells → NoneFailed c →
    (p : Parts) → Accepts Decode c.desc.before.left p →
    0 < lost_count (plain_form p) c.input.before.left → length c.input.before.left ≤ MOST_BYTES →
    (status ≡ Salvaged) ⊎ (status ≡ NoMemory)

pub record SalvagedOver (c : Call) (status : Status) : Type 0 where
  pub parts : Parts
  pub accepted : Accepts Decode c.desc.before.left parts
  -- report before the line of the status
  pub told : SinkView
  pub counted : told.faults ≤ c.report.after.faults
  pub salvaged : SalvagedText parts c.input c.out (until c.report told) status
  pub line : GivesOrFails (since c.report told) (line_of status)

abbrev pub SalvagesAs : Call → Status → Type 0
SalvagesAs c status = IsOwn status → IsTrue c.desc.tells → SalvagedOver c status

pub record LeavesUntouched (c : Call) (status : Status) : Type 0 where
  pub desc : status ≡ Usage → IsUntaken c.desc
  pub input : IsEarly status → IsUntaken c.input
  pub out : IsEarly status ⊎ (status ≡ NoMemory) → IsUngiven c.out
  pub desc_well : status ≡ Usage → ReadsWell c.desc
  pub input_well : IsEarly status → ReadsWell c.input
  pub out_well : IsEarly status ⊎ (status ≡ NoMemory) → WritesWell c.out

abbrev pub LeavesUnread : Command → SourceCall → Status → Type 0
LeavesUnread command input status = is_streamed command ≡ true → status ≡ NoMemory → IsUntaken input

abbrev pub TellsLine : Command → SinkCall → Status → Type 0
TellsLine command report status = (TellsMore command status → ⊥) → GivesOrFails report (line_of status)

abbrev pub TakesWithin : Command → Call → Type 0
TakesWithin command c = IsTrue c.desc.tells → (p : Parts) → Accepts command c.desc.before.left p →
    TakesAtMost (most_taken command p) c.input

abbrev pub TellsNumber : SourceCall → Status → Type 0
TellsNumber input status =
    (taken : ℕ) → (status ≡ TooLong taken) ⊎ (status ≡ WordLength taken) → TakesJust taken input

pub record KeepsCounts (command : Command) (c : Call) (status : Status) : Type 0 where
  pub desc : (status ≡ DescFault → ⊥) → ReadsWell c.desc
  pub input : (status ≡ InputFault → ⊥) → reads_ahead command status ≡ false → ReadsWell c.input
  pub out : (status ≡ OutFault → ⊥) → WritesWell c.out
  pub report : (status ≡ ReportFault → ⊥) → line_of status ≡ [] → WritesWell c.report
