-- IsNear         a block that has a near
-- FirstLost      the first of some blocks that has no near
-- NoneLost       where a lost codeword ends the run, none was lost so far
-- WroteOut       of two sinks, all of these bytes were written to that of the file
-- WroteOutSome   .. or a front of them, since a write failed
-- WroteOutFront  .. or a front of them, and no write failed
-- Told           .. all of these bytes were written to that of the report
-- ToldSome       .. or a front of them, since a write failed
-- CountsFit      counts that are small for the number of groups
-- group_lines    the lines of the blocks of a group, by its number
-- counted        the counts after one more group, which wrote so many bytes and has these lines
-- GroupDealt     a group of blocks was dealt with: the bytes of the group before it were written, its lines were told, and
--                it is held
-- GroupFault     why it was not: a write failed, or a block has no near and so ends the run
-- HoldsGroups    the slots of a window hold the blocks of these whole groups, and what decoding them finds
-- Dealt          the whole groups of a text were dealt with: the last one is held, and the bytes of the others were
--                written
-- Front          whole groups u at the front of a text, none of which ended the run
-- LostAt         after the groups u, the text has a group of which this codeword has no near
-- TextStopped    why the groups of a text were not all dealt with, and what was written and told
-- TextClosed     the last bytes of a text were written, and its lines told; it ends like this
-- TextAnswered   a text that ended has this answer, what is kept of it was written, and its report was told
-- TextEnded      what each answer says of a text that ended
use Rattle.std.specs.Prelude.{ℕ, ◌+◌, ◌-◌, ◌*◌, ◌<◌, ◌≤◌, ◌≡◌, List, [], ◌++◌, length, map, take, All, Some, None, IsSome, slice_index_or, Result, Err}
use Rattle.ag_frame.specs.Layouts.{bytes_in_group}
use Rattle.ag_frame.specs.Queues.{OutState, bits_held}
use Rattle.stored_form.specs.Bits.{symbols_of}
use Rattle.stored_form.specs.Form.{Form}
use Rattle.stored_form.specs.Frame.{group_bytes, group_blocks}
use Rattle.stored_form.specs.Reading.{group_count, kept, message_bits, corrected, ending}
use Rattle.stored_form.specs.Salvage.{Line, salvage_lines, lost_in, changes_in, lost_count, salvage_out}
use Rattle.ag_io.specs.Puts.{Wrote, WroteSome}
use Rattle.stream_codec.specs.Layouts.{blocks_at}
use Rattle.stream_codec.specs.Sinks.{Sinks}
use Rattle.stream_codec.specs.Report.{text_of}
use Rattle.stream_codec.specs.GroupLines.{lines_from}
use Rattle.stream_codec.specs.Salvaging.{end_of, salvage_answer, told_lines, salvage_report, whole_bytes}
use Rattle.stream_codec.specs.Slots.{IsSettled, blocks_of}
use Rattle.stream_codec.specs.Windows.{WindowState}
use Rattle.stream_codec.specs.Writing.{bytes_in, bytes_left}
use Rattle.stream_codec.specs.declared.deal.Tally.{Tally}
use Rattle.stream_codec.specs.declared.deal.WhenLost.{WhenLost}
use Rattle.stream_codec.specs.declared.deal.WhenLost.TheVariants.{Stop, Keep}
use Rattle.stream_codec.specs.declared.text.Last.{Last}
use Rattle.stream_codec.specs.declared.decode.DecodeFault.{DecodeFault}
use Rattle.stream_codec.specs.declared.decode.DecodeFault.TheVariants.{InputFault, OutFault, ReportFault, TooLong, Beyond, Ragged, Framing}
use Rattle.stream_codec.specs.declared.salvage.SalvageCounts.{SalvageCounts}

abbrev pub IsNear : Form → List ℕ → Type 0
IsNear F y = F.near y ≡ Some (kept F y)

pub record FirstLost (F : Form) (ys : List (List ℕ)) (word : ℕ) : Type 0 where
  pub below : word < length ys
  pub lost : F.near (slice_index_or ys word []) ≡ None
  pub before : (j : ℕ) → j < word → IsNear F (slice_index_or ys j [])

abbrev pub NoneLost : WhenLost → ℕ → Type 0
NoneLost Stop lost = lost ≡ 0
NoneLost Keep lost = Unit {0}

abbrev pub WroteOut : Sinks → List ℕ → Type 0
WroteOut sinks bytes = Wrote sinks.out_tells sinks.out sinks.out_after bytes

abbrev pub WroteOutSome : Sinks → List ℕ → Type 0
WroteOutSome sinks bytes = WroteSome sinks.out_tells sinks.out sinks.out_after bytes

pub record WroteOutFront (sinks : Sinks) (bytes : List ℕ) : Type 0 where
  pub front : List ℕ
  pub rest : List ℕ
  pub bytes_are : bytes ≡ front ++ rest
  pub wrote : WroteOut sinks front

abbrev pub Told : Sinks → List ℕ → Type 0
Told sinks bytes = Wrote sinks.report_tells sinks.report sinks.report_after bytes

abbrev pub ToldSome : Sinks → List ℕ → Type 0
ToldSome sinks bytes = WroteSome sinks.report_tells sinks.report sinks.report_after bytes

pub record CountsFit (tally : Tally) : Type 0 where
  pub bytes : tally.bytes ≤ tally.groups * 65536
  pub changes : tally.changes ≤ tally.groups * 65536
  pub lost : tally.lost ≤ tally.groups * 65536

abbrev pub group_lines : Form → ℕ → List (List ℕ) → List Line
group_lines F group ys = lines_from F.n F.near group 0 ys

abbrev pub counted : Tally → ℕ → List Line → Tally
counted tally bytes lines = record {
  groups = tally.groups + 1;
  bytes = tally.bytes + bytes;
  changes = tally.changes + changes_in lines;
  lost = tally.lost + lost_in lines;
}

pub record GroupDealt (F : Form) (sinks : Sinks) (s s_after : OutState) (tally tally_after : Tally)
    (ys : List (List ℕ)) : Type 0 where
  pub wrote : WroteOut sinks (bytes_in s)
  pub told : Told sinks (text_of (group_lines F tally.groups ys))
  pub holds : s_after ≡ record s {
    released = bytes_left (s.released ++ bits_held s.held);
    held = Some (message_bits F (map (kept F) ys));
  }
  pub counts_are : tally_after ≡ counted tally (length (bytes_in s)) (group_lines F tally.groups ys)

abbrev pub GroupFault : Form → Sinks → WhenLost → OutState → Tally → List (List ℕ) → DecodeFault → Type 0
GroupFault F sinks when s tally ys OutFault = WroteOutSome sinks (bytes_in s) × Told sinks []
GroupFault F sinks when s tally ys (Beyond group word) =
    (when ≡ Stop) × (group ≡ tally.groups) × FirstLost F ys word × WroteOut sinks (bytes_in s) × Told sinks []
GroupFault F sinks when s tally ys ReportFault =
    NoneLost when (lost_in (group_lines F tally.groups ys))
    × WroteOut sinks (bytes_in s)
    × ToldSome sinks (text_of (group_lines F tally.groups ys))
GroupFault F sinks when s tally ys InputFault = ⊥
GroupFault F sinks when s tally ys (TooLong taken) = ⊥
GroupFault F sinks when s tally ys (Ragged extra) = ⊥
GroupFault F sinks when s tally ys Framing = ⊥

pub record HoldsGroups (F : Form) (w : WindowState) (groups : ℕ) (z : List ℕ) : Type 0 where
  pub whole : length z ≡ groups * bytes_in_group w.layout
  pub inside : groups * w.layout.depth ≤ length w.slots
  pub blocks : blocks_of (take (groups * w.layout.depth) w.slots) ≡ blocks_at w.layout z
  pub settled : All (IsSettled F) (take (groups * w.layout.depth) w.slots)

pub record Dealt (G : Form) (sinks : Sinks) (s : OutState) (tally : Tally) (z : List ℕ) : Type 0 where
  pub whole : length z ≡ tally.groups * group_bytes G
  pub all : corrected G z tally.groups ≡ corrected G z (tally.groups - 1) ++ bits_held s.held
  pub released : s.released ≡ bytes_left (corrected G z (tally.groups - 1))
  pub none : tally.groups ≡ 0 → s.held ≡ None
  pub some : 0 < tally.groups → IsSome s.held
  pub wrote : WroteOut sinks (symbols_of 8 (corrected G z (tally.groups - 1)))
  pub told : Told sinks (told_lines G z)
  pub bytes : tally.bytes ≡ length (symbols_of 8 (corrected G z (tally.groups - 1)))
  pub changes : tally.changes ≡ changes_in (salvage_lines G z)
  pub lost : tally.lost ≡ lost_in (salvage_lines G z)

pub record Front (G : Form) (when : WhenLost) (text u : List ℕ) : Type 0 where
  pub groups : ℕ
  pub rest : List ℕ
  pub text_is : text ≡ u ++ rest
  pub whole : length u ≡ groups * group_bytes G
  pub none : NoneLost when (lost_count G u)

pub record LostAt (G : Form) (text u : List ℕ) (group word : ℕ) : Type 0 where
  pub at : List ℕ
  pub rest : List ℕ
  pub text_is : text ≡ u ++ (at ++ rest)
  pub number : length u ≡ group * group_bytes G
  pub long : length at ≡ group_bytes G
  pub none : lost_count G u ≡ 0
  pub lost : FirstLost G (group_blocks G at) word

abbrev pub TextStopped : Form → Sinks → WhenLost → List ℕ → DecodeFault → Type 0
TextStopped G sinks when text OutFault =
    (u : List ℕ) × Front G when text u × WroteOutSome sinks (whole_bytes G u) × Told sinks (told_lines G u)
TextStopped G sinks when text ReportFault =
    (u : List ℕ) × Front G when text u × WroteOutFront sinks (whole_bytes G u) × ToldSome sinks (told_lines G u)
TextStopped G sinks when text (Beyond group word) =
    (u : List ℕ) × (when ≡ Stop) × LostAt G text u group word × WroteOut sinks (whole_bytes G u) × Told sinks (told_lines G u)
TextStopped G sinks when text InputFault = ⊥
TextStopped G sinks when text (TooLong taken) = ⊥
TextStopped G sinks when text (Ragged extra) = ⊥
TextStopped G sinks when text Framing = ⊥

pub record TextClosed (G : Form) (sinks : Sinks) (tally : Tally) (text : List ℕ) (last : Last) : Type 0 where
  pub ends : end_of (ending G text) ≡ last.end
  pub wrote : WroteOut sinks (salvage_out G text)
  pub told : Told sinks (told_lines G text)
  pub bytes : tally.bytes + last.bytes ≡ length (salvage_out G text)
  pub groups : tally.groups ≡ group_count G text
  pub changes : tally.changes ≡ changes_in (salvage_lines G text)
  pub lost : tally.lost ≡ lost_count G text
  -- what is written stands at the front of the bytes of the groups
  pub rest : List ℕ
  pub front : whole_bytes G text ≡ salvage_out G text ++ rest

pub record TextAnswered (G : Form) (sinks : Sinks) (text : List ℕ) (answer : Result SalvageCounts DecodeFault) : Type 0 where
  pub answers : salvage_answer G text ≡ answer
  pub wrote : WroteOut sinks (salvage_out G text)
  pub told : Told sinks (salvage_report G text)

pub data TextEnded (G : Form) (sinks : Sinks) (text : List ℕ) (answer : Result SalvageCounts DecodeFault) : Type 0 where
  answered : TextAnswered G sinks text answer → TextEnded G sinks text answer
  out_stopped : answer ≡ Err OutFault → WroteOutSome sinks (whole_bytes G text) → Told sinks (told_lines G text) → TextEnded G sinks text answer
  report_stopped : answer ≡ Err ReportFault → WroteOutFront sinks (whole_bytes G text) → ToldSome sinks (salvage_report G text) → TextEnded G sinks text answer
