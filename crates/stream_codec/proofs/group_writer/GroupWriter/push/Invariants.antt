-- The bytes so far were pushed.
use Rattle.std.proofs.Common.{◌≡◌, ◌++◌, take}
use Rattle.stored_form.specs.Bits.{bits_of_symbols}
use Rattle.stream_codec.specs.Layouts.{in_groups}
use Rattle.stream_codec.specs.Groups.{IsShort, Pushed}
use Rattle.stream_codec.proofs.group_writer.GroupWriter.push.Given as goal

abbrev pub invariant-loop-i : goal.invariant-loop-i
invariant-loop-i g l = record {
  layout : l.self.layout ≡ l.initial.self.layout;
  pushed : Pushed (in_groups l.initial.self.layout (g.C.BlockCode.form l.code)) g.O.Sink.tells (g.O.Sink.view l.initial.sink) (g.O.Sink.view l.sink) (l.initial.self.waiting ++ bits_of_symbols 8 (take l.i l.bytes)) l.self.waiting l.groups;
  short : IsShort l.self;
}
