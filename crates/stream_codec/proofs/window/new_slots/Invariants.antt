-- The slots so far.
use Rattle.std.proofs.Common.{◌≡◌, length, All}
use Rattle.stream_codec.specs.Slots.{CanDecode}
use Rattle.stream_codec.proofs.window.new_slots.Given as goal

abbrev pub invariant-loop : goal.invariant-loop
invariant-loop g l = record {
  count : length l.slots.items ≡ l.counter;
  fit : All (CanDecode (g.C.BlockCode.form l.code) (g.C.BlockCode.numbers l.code)) l.slots.items;
}
