-- The bytes so far, and those that are left, are the released ones.
use Rattle.std.proofs.Common.{◌≡◌, ◌≤◌, ◌*◌, length, take, drop, map}
use Rattle.stored_form.specs.Bits.{pieces, number_of}
use Rattle.stream_codec.proofs.writer.take_bytes.Given as goal

abbrev pub invariant-loop-byte : goal.invariant-loop-byte
invariant-loop-byte l = record {
  bytes : take l.count l.out ≡ map number_of (pieces 8 l.count l.initial.bits.released);
  released : l.bits ≡ record l.initial.bits { released = drop (l.count * 8) l.initial.bits.released };
  fits : l.count * 8 ≤ length l.initial.bits.released;
}

abbrev pub decreases-loop-byte : goal.decreases-loop-byte
decreases-loop-byte l = length l.bits.released
