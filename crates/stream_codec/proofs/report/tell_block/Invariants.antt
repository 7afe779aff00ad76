-- The changes so far were told, or their lines wait.
use Rattle.std.proofs.Common.{◌≡◌, ◌++◌, length}
use Rattle.ag_io.specs.Puts.{WroteAllBut}
use Rattle.stream_codec.specs.Report.{lines_of}
use Rattle.stream_codec.specs.GroupLines.{place_changes}
use Rattle.stream_codec.proofs.report.tell_block.Given as goal

abbrev pub invariant-loop-p : goal.invariant-loop-p
invariant-loop-p g l = record {
  wrote : WroteAllBut g.R.Sink.tells (g.R.Sink.view l.initial.report) (g.R.Sink.view l.report) (l.initial.pending ++ lines_of (place_changes l.p l.group l.word l.got l.codeword)) l.pending;
  count : l.count ≡ length (place_changes l.p l.group l.word l.got l.codeword);
}
