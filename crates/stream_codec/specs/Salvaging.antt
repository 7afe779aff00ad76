-- end_of          how a text ends, by its ending: with a file, with bytes after its whole groups, or with no framing. No
--                 ending is Beyond.
-- salvage_counts  what salvage counts of a text: its whole groups, the bytes that are written, the changes and the lost
--                 codewords that are told, and how it ends
-- answer_of       the answer with these counts: where no codeword is lost it is that of decoding
-- salvage_answer  the answer that a text asks for
-- salvage_answer_to   .. under a limit
-- end_line        the line of an end: none where it is a file
-- done_by         the done line, where no codeword is lost and the end is a file
-- last_lines      the lines after those of the codewords: the done line, or what is told where codewords are lost
-- told_lines      the lines of the codewords
-- salvage_report  these lines and the last ones
-- whole_bytes     the whole bytes of the corrected bits of all whole groups
-- SalvagesText    Ok, Ragged, Framing: all that was left is within the limit; the answer is that of its counts, what is
--                 kept of it was given, and its lines and last lines were told
-- SalvagePasses   TooLong: more bytes than the limit were taken; whether or not codewords are lost, all but the last of
--                 the whole groups within the limit was given, and the lines of these groups were told
-- SalvageStops    InputFault: the same of the whole groups of the bytes taken
-- SalvageOutStops, SalvageReportStops   OutFault, ReportFault: fronts of the bytes and the lines of the whole groups
--                 taken, one of them not all; after OutFault none of the last lines was told
-- SalvagedToldAs  what each answer says of a source that tells its bytes, and of the sinks that tell theirs
-- SalvagedAs      .. and what it says in any case, as for a call that decodes
-- plain           the answer of a call that decodes
-- DecodesAlike    where no codeword is lost, all is as decoding leaves it
-- IsSalvaged      where no count rises, the answer is a function of what was left and of the limit
use Rattle.std.specs.Prelude.{ℕ, ◌-◌, ◌<◌, ◌≤◌, ◌≡◌, ◌++◌, IsTrue, nat_eq, nat_le, if◌then◌else◌, List, [], length, codes, Result, Ok, Err}
use Rattle.ag_io.specs.Counts.{Rose}
use Rattle.ag_io.specs.Views.{Gives, GivesFront, GivesLess}
use Rattle.ag_texts.specs.Lines.{plain_line_of, number_line_of, done_line_of, salvaged_line_of}
use Rattle.stored_form.specs.Bits.{symbols_of}
use Rattle.stored_form.specs.Form.{Form}
use Rattle.stored_form.specs.Frame.{group_bytes}
use Rattle.stored_form.specs.Reading.{Reading, group_count, corrected, ending}
use Rattle.stored_form.specs.Reading.{Beyond as ReadBeyond, Ragged as ReadRagged, Framing as ReadFraming, File as ReadFile}
use Rattle.stored_form.specs.Salvage.{lines_to, salvage_lines, changes_in, lost_count, salvage_out}
use Rattle.stream_codec.specs.Decoding.{Decode, taken, groups_within, FaultAs, TakesMost, NoneRose, DecodedAs}
use Rattle.stream_codec.specs.Report.{text_of}
use Rattle.stream_codec.specs.Taking.{WereTaken, taken_past}
use Rattle.stream_codec.specs.declared.decode.DecodeCounts.{DecodeCounts}
use Rattle.stream_codec.specs.declared.decode.DecodeFault.{DecodeFault}
use Rattle.stream_codec.specs.declared.decode.DecodeFault.TheVariants as decoding
use Rattle.stream_codec.specs.declared.salvage.SalvageCounts.{SalvageCounts}
use Rattle.stream_codec.specs.declared.salvage.SalvageEnd.{SalvageEnd}
use Rattle.stream_codec.specs.declared.salvage.SalvageEnd.TheVariants.{File, Ragged, Framing}

abbrev pub end_of : Reading → SalvageEnd
end_of (ReadFile x) = File
end_of (ReadRagged extra) = Ragged extra
end_of ReadFraming = Framing
end_of (ReadBeyond group word) = Framing

abbrev pub salvage_counts : Form → List ℕ → SalvageCounts
salvage_counts F z = record {
  groups = group_count F z;
  bytes = length (salvage_out F z);
  changes = changes_in (salvage_lines F z);
  lost = lost_count F z;
  end = end_of (ending F z);
}

abbrev pub answer_at : SalvageCounts → SalvageEnd → Result SalvageCounts DecodeFault
answer_at counts File = Ok counts
answer_at counts (Ragged extra) = Err (decoding.Ragged extra)
answer_at counts Framing = Err decoding.Framing

abbrev pub answer_of : SalvageCounts → Result SalvageCounts DecodeFault
answer_of counts = if nat_eq counts.lost 0 then answer_at counts counts.end else Ok counts

abbrev pub salvage_answer : Form → List ℕ → Result SalvageCounts DecodeFault
salvage_answer F z = answer_of (salvage_counts F z)

abbrev pub salvage_answer_to : Form → (limit : ℕ) → List ℕ → Result SalvageCounts DecodeFault
salvage_answer_to F limit z =
    let past = decoding.TooLong (taken_past (group_bytes F) limit (length z)) in
    if nat_le (length z) limit then salvage_answer F z else Err past

abbrev pub end_line : SalvageEnd → List ℕ
end_line File = []
end_line (Ragged extra) = number_line_of (codes "ragged") extra
end_line Framing = plain_line_of (codes "framing")

abbrev pub done_by : SalvageCounts → SalvageEnd → List ℕ
done_by counts File = done_line_of counts.bytes counts.groups counts.changes
done_by counts (Ragged extra) = []
done_by counts Framing = []

abbrev pub last_lines : SalvageCounts → List ℕ
last_lines counts =
    let salvaged = salvaged_line_of counts.bytes counts.groups counts.changes counts.lost in
    if nat_eq counts.lost 0 then done_by counts counts.end else end_line counts.end ++ salvaged

abbrev pub told_lines : Form → List ℕ → List ℕ
told_lines F z = text_of (salvage_lines F z)

abbrev pub salvage_report : Form → List ℕ → List ℕ
salvage_report F z = told_lines F z ++ last_lines (salvage_counts F z)

abbrev pub whole_bytes : Form → List ℕ → List ℕ
whole_bytes F z = symbols_of 8 (corrected F z (group_count F z))

pub record SalvagesText (d : Decode) (answer : Result SalvageCounts DecodeFault) : Type 0 where
  pub within : length d.source.left ≤ d.limit
  pub ended : d.source_after.left ≡ []
  pub answers : answer ≡ salvage_answer d.form d.source.left
  pub out : Gives d.out_tells d.out d.out_after (salvage_out d.form d.source.left)
  pub report : Gives d.report_tells d.report d.report_after (salvage_report d.form d.source.left)

pub record SalvagePasses (d : Decode) (count : ℕ) : Type 0 where
  pub left : WereTaken d.source d.source_after
  pub count_is : count ≡ length (taken d)
  pub passes : d.limit < count
  pub exact : (Rose d.source.faults d.source_after.faults → ⊥) → count ≡ taken_past (group_bytes d.form) d.limit (length d.source.left)
  pub out : Gives d.out_tells d.out d.out_after (symbols_of 8 (corrected d.form (taken d) (groups_within d - 1)))
  pub report : Gives d.report_tells d.report d.report_after (text_of (lines_to d.form (taken d) (groups_within d)))

pub record SalvageStops (d : Decode) : Type 0 where
  pub left : WereTaken d.source d.source_after
  pub within : length (taken d) ≤ d.limit
  pub out : Gives d.out_tells d.out d.out_after (symbols_of 8 (corrected d.form (taken d) (group_count d.form (taken d) - 1)))
  pub report : Gives d.report_tells d.report d.report_after (told_lines d.form (taken d))

pub record SalvageOutStops (d : Decode) : Type 0 where
  pub left : WereTaken d.source d.source_after
  pub out : GivesFront d.out_tells d.out d.out_after (whole_bytes d.form (taken d))
  pub fewer : GivesLess d.out_tells d.out d.out_after (whole_bytes d.form (taken d))
  pub report : GivesFront d.report_tells d.report d.report_after (told_lines d.form (taken d))

pub record SalvageReportStops (d : Decode) : Type 0 where
  pub left : WereTaken d.source d.source_after
  pub out : GivesFront d.out_tells d.out d.out_after (whole_bytes d.form (taken d))
  pub report : GivesFront d.report_tells d.report d.report_after (salvage_report d.form (taken d))
  pub fewer : GivesLess d.report_tells d.report d.report_after (salvage_report d.form (taken d))

abbrev pub SalvagedToldAs : Decode → Result SalvageCounts DecodeFault → Type 0
SalvagedToldAs d (Ok counts) = SalvagesText d (Ok counts)
SalvagedToldAs d (Err (decoding.Beyond group word)) = ⊥
SalvagedToldAs d (Err (decoding.Ragged extra)) = SalvagesText d (Err (decoding.Ragged extra))
SalvagedToldAs d (Err decoding.Framing) = SalvagesText d (Err decoding.Framing)
SalvagedToldAs d (Err (decoding.TooLong count)) = SalvagePasses d count
SalvagedToldAs d (Err decoding.InputFault) = SalvageStops d
SalvagedToldAs d (Err decoding.OutFault) = SalvageOutStops d
SalvagedToldAs d (Err decoding.ReportFault) = SalvageReportStops d

pub record SalvagedAs (d : Decode) (answer : Result SalvageCounts DecodeFault) : Type 0 where
  pub told : IsTrue d.source_tells → SalvagedToldAs d answer
  pub goes_on : (group word : ℕ) → answer ≡ Err (decoding.Beyond group word) → ⊥
  pub fault : FaultAs d answer
  pub most : TakesMost d
  pub source_counted : d.source.faults ≤ d.source_after.faults
  pub out_counted : d.out.faults ≤ d.out_after.faults
  pub report_counted : d.report.faults ≤ d.report_after.faults
  pub out_sure : d.out_after.sure ≡ d.out.sure
  pub report_sure : d.report_after.sure ≡ d.report.sure

abbrev pub plain : Result SalvageCounts DecodeFault → Result DecodeCounts DecodeFault
plain (Ok counts) = Ok (record { groups = counts.groups; bytes = counts.bytes; changes = counts.changes })
plain (Err fault) = Err fault

abbrev pub DecodesAlike : Decode → Result SalvageCounts DecodeFault → Type 0
DecodesAlike d answer = IsTrue d.source_tells → lost_count d.form d.source.left ≡ 0 → DecodedAs d (plain answer)

abbrev pub IsSalvaged : Decode → Result SalvageCounts DecodeFault → Type 0
IsSalvaged d answer =
    IsTrue d.source_tells → NoneRose d → answer ≡ salvage_answer_to d.form d.limit d.source.left
