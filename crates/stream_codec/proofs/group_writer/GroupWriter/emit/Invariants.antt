-- The groups so far were written.
use Rattle.std.proofs.Common.{◌≡◌, length}
use Rattle.stream_codec.specs.Layouts.{in_groups}
use Rattle.stream_codec.proofs.PushLemmas.{Emitting}
use Rattle.stream_codec.proofs.group_writer.GroupWriter.emit.Given as goal

abbrev pub invariant-loop-self : goal.invariant-loop-self
invariant-loop-self g l = record {
  layout : l.self.layout ≡ l.initial.self.layout;
  emitting : Emitting (in_groups l.initial.self.layout (g.C.BlockCode.form l.code)) g.O.Sink.tells (g.O.Sink.view l.initial.sink) (g.O.Sink.view l.sink) l.initial.self.waiting l.self.waiting l.groups;
}

abbrev pub decreases-loop-self : goal.decreases-loop-self
decreases-loop-self g l = length l.self.waiting
