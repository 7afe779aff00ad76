-- The lines of the codewords so far were told, or wait.
use Rattle.std.proofs.Common.{◌≡◌, take}
use Rattle.stored_form.specs.Salvage.{changes_in, lost_in}
use Rattle.ag_io.specs.Puts.{WroteAllBut}
use Rattle.stream_codec.specs.Report.{text_of}
use Rattle.stream_codec.specs.GroupLines.{slot_lines}
use Rattle.stream_codec.proofs.report.tell_group.Given as goal

abbrev pub invariant-loop-c : goal.invariant-loop-c
invariant-loop-c g l = record {
  wrote : WroteAllBut g.R.Sink.tells (g.R.Sink.view l.initial.report) (g.R.Sink.view l.report) (text_of (slot_lines l.n l.group 0 (take l.c l.slots))) l.pending;
  changes : l.changes ≡ changes_in (slot_lines l.n l.group 0 (take l.c l.slots));
  lost : l.lost ≡ lost_in (slot_lines l.n l.group 0 (take l.c l.slots));
}
