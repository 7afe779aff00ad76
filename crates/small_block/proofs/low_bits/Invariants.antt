-- The bytes so far are written.
use Rattle.std.proofs.Common.{ℕ, ◌%◌, ◌<◌, ◌≡◌, get_or}
use Rattle.small_block.proofs.low_bits.Given as goal

abbrev pub invariant-loop-p : goal.invariant-loop-p
invariant-loop-p l = (k : ℕ) → k < l.p → get_or l.word k 0 ≡ get_or l.got k 0 % 4
