-- The windows so far were taken and dealt with.
use Rattle.std.proofs.Common.{ℕ, ◌≡◌, ◌-◌, List, All}
use Rattle.stream_codec.specs.Slots.{CanDecode}
use Rattle.stream_codec.proofs.WindowGroups.{Decoding}
use Rattle.stream_codec.proofs.text.decode_text.Given as goal

abbrev pub invariant-windows : goal.invariant-windows
invariant-windows g l = record {
  decoding : (z : List ℕ) × Decoding (g.C.BlockCode.form l.code) l.initial.window.layout g.I.Source.tells (g.I.Source.view l.initial.src) (g.I.Source.view l.src)
      g.O.Sink.tells (g.O.Sink.view l.initial.sink) (g.O.Sink.view l.sink)
      g.R.Sink.tells (g.R.Sink.view l.initial.report) (g.R.Sink.view l.report)
      l.writer l.tally l.when_lost l.limit l.taken z;
  layout : l.window.layout ≡ l.initial.window.layout;
  ready : All (CanDecode (g.C.BlockCode.form l.code) (g.C.BlockCode.numbers l.code)) l.window.slots;
  size : l.writer.size ≡ l.initial.writer.size;
  width : l.writer.width ≡ l.initial.writer.width;
}

abbrev pub decreases-windows : goal.decreases-windows
decreases-windows g l = l.limit - l.taken
