-- SourceCall       a source over a call: whether its bytes are told, and what is seen of it before and after
-- SinkCall         a sink over a call
-- Call             the descriptor, the input, out and report over a call
-- source_call      a source over a call, by what its type says of sources, and the source before and after
-- sink_call        the same of a sink
-- call             the same of all four
-- until            a sink over the first part of a call, after which it is seen so
-- since            a sink over the rest of a call, before which it is seen so
-- once_given       a sink over the rest of a call, once these bytes were given
-- still_source     a source over a call that does not touch it
-- still_sink       the same of a sink
-- Untouched        the input, out and report are as before
-- IsUntaken        nothing was taken of a source
-- IsEnded          a source was read to its end
-- TakesJust        just so many bytes were taken
-- TakesAtMost      at most so many bytes were taken
-- IsUngiven        nothing was given to a sink
-- GivesText        these bytes were given to a sink
-- ReadFailed       the count of faults of a source rose
-- WriteFailed      the count of faults of a sink rose
-- ReadsWell        no read of a source failed
-- WritesWell       no write to a sink failed
-- Writes           these bytes were given to a sink, and no write failed
-- StopsAt          a write failed: a front of these bytes was given, and not all of them
-- GivesOrFails     one of these two
-- NoneFailed       none of the four counts rose
use Rattle.std.specs.Prelude.{ℕ, ◌≡◌, ◌+◌, ◌≤◌, ◌++◌, Bool, IsTrue, List, length, ◌⊎◌}
use Rattle.ag_io.specs.Counts.{Rose}
use Rattle.ag_io.specs.Views.{SourceView, SinkView, IsUnread, IsSpent, Gives, GivesFront, GivesLess, IsUnwritten}
use Rattle.ag_io.specs.declared.stream.Source.{Ghosts as SourceWords}
use Rattle.ag_io.specs.declared.stream.Sink.{Ghosts as SinkWords}

pub record SourceCall : Type 0 where
  pub tells : Bool
  pub before : SourceView
  pub after : SourceView

pub record SinkCall : Type 0 where
  pub tells : Bool
  pub before : SinkView
  pub after : SinkView

pub record Call : Type 0 where
  pub desc : SourceCall
  pub input : SourceCall
  pub out : SinkCall
  pub report : SinkCall

abbrev pub source_call : {S : Type 0} → SourceWords S → (before after : S) → SourceCall
source_call s before after = record { tells = s.tells; before = s.view before; after = s.view after }

abbrev pub sink_call : {S : Type 0} → SinkWords S → (before after : S) → SinkCall
sink_call s before after = record { tells = s.tells; before = s.view before; after = s.view after }

abbrev pub call : {D I O R : Type 0} → SourceWords D → (desc desc_after : D) → SourceWords I → (input input_after : I)
    → SinkWords O → (out out_after : O) → SinkWords R → (report report_after : R) → Call
call d desc desc_after i input input_after o out out_after r report report_after = record {
  desc = source_call d desc desc_after;
  input = source_call i input input_after;
  out = sink_call o out out_after;
  report = sink_call r report report_after;
}

abbrev pub until : SinkCall → SinkView → SinkCall
until s between = record { tells = s.tells; before = s.before; after = between }

abbrev pub since : SinkCall → SinkView → SinkCall
since s between = record { tells = s.tells; before = between; after = s.after }

abbrev pub once_given : SinkCall → List ℕ → SinkCall
once_given s bytes = since s
    (record { given = s.before.given ++ bytes; faults = s.before.faults; sure = s.before.sure })

abbrev pub still_source : Bool → SourceView → SourceCall
still_source tells view = record { tells = tells; before = view; after = view }

abbrev pub still_sink : Bool → SinkView → SinkCall
still_sink tells view = record { tells = tells; before = view; after = view }

pub record Untouched (input : SourceCall) (out report : SinkCall) : Type 0 where
  pub input_still : input.after ≡ input.before
  pub out_still : out.after ≡ out.before
  pub report_still : report.after ≡ report.before

abbrev pub IsUntaken : SourceCall → Type 0
IsUntaken s = IsUnread s.tells s.before s.after

abbrev pub IsEnded : SourceCall → Type 0
IsEnded s = IsSpent s.tells s.after

abbrev pub TakesJust : ℕ → SourceCall → Type 0
TakesJust n s = IsTrue s.tells → length s.before.left ≡ length s.after.left + n

abbrev pub TakesAtMost : ℕ → SourceCall → Type 0
TakesAtMost n s = IsTrue s.tells → length s.before.left ≤ length s.after.left + n

abbrev pub IsUngiven : SinkCall → Type 0
IsUngiven s = IsUnwritten s.tells s.before s.after

abbrev pub GivesText : SinkCall → List ℕ → Type 0
GivesText s text = Gives s.tells s.before s.after text

abbrev pub ReadFailed : SourceCall → Type 0
ReadFailed s = Rose s.before.faults s.after.faults

abbrev pub WriteFailed : SinkCall → Type 0
WriteFailed s = Rose s.before.faults s.after.faults

abbrev pub ReadsWell : SourceCall → Type 0
ReadsWell s = s.after.faults ≡ s.before.faults

abbrev pub WritesWell : SinkCall → Type 0
WritesWell s = s.after.faults ≡ s.before.faults

pub record Writes (s : SinkCall) (text : List ℕ) : Type 0 where
  pub given : GivesText s text
  pub well : WritesWell s

pub record StopsAt (s : SinkCall) (text : List ℕ) : Type 0 where
  pub given : GivesFront s.tells s.before s.after text
  pub fewer : GivesLess s.tells s.before s.after text
  pub failed : WriteFailed s

abbrev pub GivesOrFails : SinkCall → List ℕ → Type 0
GivesOrFails s text = Writes s text ⊎ StopsAt s text

pub record NoneFailed (c : Call) : Type 0 where
  pub desc : ReadFailed c.desc → ⊥
  pub input : ReadFailed c.input → ⊥
  pub out : WriteFailed c.out → ⊥
  pub report : WriteFailed c.report → ⊥
