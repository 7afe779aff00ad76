-- What the private steps of a run leave; the clauses of `run` are proved from it.
--
-- Said                  a command that writes one text said its answer over a descriptor of these parts
-- OutStopped            a fault of out stopped it: a front of its text was given
-- ReportStopped         a fault of report stopped it: its text was given, and a front of what it tells
-- InputStopped          a fault of the input stopped it
-- Wanting               memory was wanting
-- AnswerLeaves          one of these
-- EncodeLeaves          encode did its work, or memory was wanting, and nothing was touched
-- DecodeLeaves          the same of decode, which may be asked to go on past lost codewords
-- ServeLeaves           what any command leaves over a descriptor of these parts, which it accepts
-- CompileAndServe       the same, where the command also makes the code of the descriptor
-- ServesDescribed       a command accepts the parts that the text of the descriptor describes, and served them
-- CarryOutLeaves        what a command leaves, the reading of the descriptor with it
-- RefusesWords          the words are no command line: usage, and nothing was touched
-- CarriesOutWords       the words are a command line, and its command was carried out
-- ObeyLeaves            one of these
use Rattle.std.specs.Prelude.{◌≡◌, ℕ, List, IsTrue, true, false, ◌⊎◌}
use Rattle.command_words.specs.declared.words.Command.{Command}
use Rattle.command_words.specs.declared.words.Command.TheVariants.{Encode, Decode}
use Rattle.command_words.specs.declared.words.Words.{Words}
use Rattle.command_words.specs.Lines.{IsCommandLine}
use Rattle.code_descriptor.specs.declared.DescCause.{DescCause}
use Rattle.code_descriptor.specs.Parts.{Parts}
use Rattle.agcode_top.specs.declared.status.Status.{Status}
use Rattle.agcode_top.specs.declared.status.Status.TheVariants.{Usage, Descriptor, DescFault, InputFault, OutFault}
use Rattle.agcode_top.specs.declared.status.Status.TheVariants.{ReportFault, NoMemory}
use Rattle.agcode_top.specs.Calls.{Call, SourceCall, SinkCall, Untouched, TakesAtMost}
use Rattle.agcode_top.specs.Calls.{ReadFailed, ReadsWell, Writes, StopsAt}
use Rattle.agcode_top.specs.Statuses.{OnWords, reads_input, tells_report, TellsMore, has_text}
use Rattle.agcode_top.specs.Commands.{Refuses, RefusesParts, Accepts, Saying, most_taken}
use Rattle.agcode_top.specs.Streams.{Encoded, Decoded, SalvagedText}

pub record Said (asked : Words) (command : Command) (p : Parts) (input : SourceCall) (out report : SinkCall)
    (status : Status) : Type 0 where
  pub text : List ℕ
  pub told : List ℕ
  pub saying : Saying asked command p input status text told
  pub written : Writes out text
  pub reported : Writes report told

pub record OutStopped (asked : Words) (command : Command) (p : Parts) (input : SourceCall) (out report : SinkCall)
    (status : Status) : Type 0 where
  pub status_is : status ≡ OutFault
  pub answer : Status
  pub text : List ℕ
  pub told : List ℕ
  pub saying : Saying asked command p input answer text told
  pub has : has_text answer ≡ true
  pub written : StopsAt out text
  pub report_still : report.after ≡ report.before

pub record ReportStopped (asked : Words) (command : Command) (p : Parts) (input : SourceCall) (out report : SinkCall)
    (status : Status) : Type 0 where
  pub status_is : status ≡ ReportFault
  pub tells : tells_report command ≡ true
  pub more : TellsMore command ReportFault
  pub answer : Status
  pub text : List ℕ
  pub told : List ℕ
  pub saying : Saying asked command p input answer text told
  pub has : has_text answer ≡ true
  pub written : Writes out text
  pub reported : StopsAt report told

pub record InputStopped (command : Command) (p : Parts) (input : SourceCall) (out report : SinkCall)
    (status : Status) : Type 0 where
  pub status_is : status ≡ InputFault
  pub reads : reads_input command ≡ true
  pub most : TakesAtMost (most_taken command p) input
  pub failed : ReadFailed input
  pub out_still : out.after ≡ out.before
  pub report_still : report.after ≡ report.before

pub record Wanting (command : Command) (p : Parts) (input : SourceCall) (out report : SinkCall) (status : Status)
    : Type 0 where
  pub status_is : status ≡ NoMemory
  pub most : TakesAtMost (most_taken command p) input
  pub read_well : ReadsWell input
  pub out_still : out.after ≡ out.before
  pub report_still : report.after ≡ report.before

pub data AnswerLeaves (asked : Words) (command : Command) (p : Parts) (input : SourceCall) (out report : SinkCall)
    (status : Status) : Type 0 where
  said : Said asked command p input out report status → AnswerLeaves asked command p input out report status
  out_stopped : OutStopped asked command p input out report status → AnswerLeaves asked command p input out report status
  report_stopped : ReportStopped asked command p input out report status →
      AnswerLeaves asked command p input out report status
  input_stopped : InputStopped command p input out report status → AnswerLeaves asked command p input out report status
  wanting : Wanting command p input out report status → AnswerLeaves asked command p input out report status

pub data EncodeLeaves (p : Parts) (input : SourceCall) (out report : SinkCall) (status : Status) : Type 0 where
  encoded : Encoded p input out status → report.after ≡ report.before → EncodeLeaves p input out report status
  unencoded : status ≡ NoMemory → Untouched input out report → EncodeLeaves p input out report status

pub data DecodeLeaves (asked : Words) (p : Parts) (input : SourceCall) (out report : SinkCall) (status : Status)
    : Type 0 where
  decoded : asked.salvage ≡ false → Decoded p input out report status → DecodeLeaves asked p input out report status
  salvaged : asked.salvage ≡ true → SalvagedText p input out report status →
      DecodeLeaves asked p input out report status
  undecoded : status ≡ NoMemory → Untouched input out report → DecodeLeaves asked p input out report status

abbrev pub ServeLeaves : Words → Command → Parts → SourceCall → SinkCall → SinkCall → Status → Type 0
ServeLeaves asked Encode p input out report status = EncodeLeaves p input out report status
ServeLeaves asked Decode p input out report status = DecodeLeaves asked p input out report status
ServeLeaves asked command p input out report status = AnswerLeaves asked command p input out report status

pub data CompileAndServe (asked : Words) (command : Command) (p : Parts) (input : SourceCall) (out report : SinkCall)
    (status : Status) : Type 0 where
  no_code : (cause : DescCause) → status ≡ Descriptor cause → RefusesParts command p cause →
      Untouched input out report → CompileAndServe asked command p input out report status
  not_made : status ≡ NoMemory → Untouched input out report → CompileAndServe asked command p input out report status
  made : ((cause : DescCause) → RefusesParts command p cause → ⊥) →
      ServeLeaves asked command p input out report status → CompileAndServe asked command p input out report status

pub record ServesDescribed (asked : Words) (command : Command) (c : Call) (status : Status) : Type 0 where
  pub parts : Parts
  pub accepted : IsTrue c.desc.tells → Accepts command c.desc.before.left parts
  pub desc_well : ReadsWell c.desc
  pub leaves : ServeLeaves asked command parts c.input c.out c.report status

pub data CarryOutLeaves (asked : Words) (command : Command) (c : Call) (status : Status) : Type 0 where
  unread : status ≡ DescFault → ReadFailed c.desc → Untouched c.input c.out c.report →
      CarryOutLeaves asked command c status
  refused : (cause : DescCause) → status ≡ Descriptor cause →
      (IsTrue c.desc.tells → Refuses command c.desc.before.left cause) → ReadsWell c.desc →
      Untouched c.input c.out c.report → CarryOutLeaves asked command c status
  unserved : status ≡ NoMemory → ReadsWell c.desc → Untouched c.input c.out c.report →
      CarryOutLeaves asked command c status
  served : ServesDescribed asked command c status → CarryOutLeaves asked command c status

pub record RefusesWords (texts : List (List ℕ)) (c : Call) (status : Status) : Type 0 where
  pub nobody : OnWords texts (λ w. ⊥)
  pub status_is : status ≡ Usage
  pub desc_still : c.desc.after ≡ c.desc.before
  pub still : Untouched c.input c.out c.report

pub record CarriesOutWords (texts : List (List ℕ)) (c : Call) (status : Status) : Type 0 where
  pub words : Words
  pub line : IsCommandLine texts words
  pub leaves : CarryOutLeaves words words.command c status

abbrev pub ObeyLeaves : List (List ℕ) → Call → Status → Type 0
ObeyLeaves texts c status = RefusesWords texts c status ⊎ CarriesOutWords texts c status
