-- The groups so far were dealt with.
use Rattle.std.proofs.Common.{ℕ, ◌≡◌, ◌+◌, ◌*◌, ◌++◌, List, take}
use Rattle.stored_form.specs.Frame.{group_bytes}
use Rattle.stream_codec.specs.Layouts.{in_groups}
use Rattle.stream_codec.specs.Sinks.{sinks_of}
use Rattle.stream_codec.specs.Dealing.{CountsFit, NoneLost, HoldsGroups, Dealt}
use Rattle.ag_io.specs.Views.{SinkView}
use Rattle.stream_codec.proofs.deal.deal_groups.Given as goal

abbrev pub invariant-loop-g : goal.invariant-loop-g
invariant-loop-g g l = record {
  dealt : (z w : List ℕ) (out_first report_first : SinkView) → HoldsGroups (g.C.BlockCode.form l.code) l.window l.groups w →
      Dealt (in_groups l.window.layout (g.C.BlockCode.form l.code)) (sinks_of g.O.Sink.tells out_first (g.O.Sink.view l.initial.sink) g.R.Sink.tells report_first (g.R.Sink.view l.initial.report)) l.initial.writer l.initial.tally z →
      Dealt (in_groups l.window.layout (g.C.BlockCode.form l.code)) (sinks_of g.O.Sink.tells out_first (g.O.Sink.view l.sink) g.R.Sink.tells report_first (g.R.Sink.view l.report)) l.writer l.tally (z ++ take (l.g * group_bytes (in_groups l.window.layout (g.C.BlockCode.form l.code))) w);
  counts : CountsFit l.tally;
  none : NoneLost l.when_lost l.tally.lost;
  groups : l.tally.groups ≡ l.initial.tally.groups + l.g;
  size : l.writer.size ≡ l.initial.writer.size;
  width : l.writer.width ≡ l.initial.writer.width;
}
