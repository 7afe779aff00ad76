use Rattle.std.proofs.Common.{ℕ, ◌≡◌, ◌<◌, ◌^◌, ◌%◌, slice_index}
use Rattle.block_code.proofs.correction.write_low_bits.Given as goal

abbrev pub invariant-loop-p : goal.invariant-loop-p
invariant-loop-p l = (q : ℕ) → q < l.p → slice_index l.word q ≡ slice_index l.bytes q % 2 ^ l.bits
