use Rattle.std.proofs.Common.{ℕ, ◌≡◌, ◌<◌, ◌≤◌, ◌^◌, ◌%◌, bit_xor, slice_index}
use Rattle.block_code.proofs.correction.add_low_bits.Given as goal

abbrev pub invariant-loop-p : goal.invariant-loop-p
invariant-loop-p l = record {
  added : (q : ℕ) → q < l.p → slice_index l.word q ≡ bit_xor (slice_index l.bytes q % 2 ^ l.bits) (slice_index l.initial.word q);
  to_come : (q : ℕ) → l.p ≤ q → slice_index l.word q ≡ slice_index l.initial.word q;
}
