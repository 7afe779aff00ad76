use Rattle.std.proofs.Common.{ℕ, ◌≡◌, ◌<◌, ◌^◌, ◌%◌, slice_index}
use Rattle.vote_core.proofs.voter.low_symbols.Given as goal

abbrev pub invariant-loop-p : goal.invariant-loop-p
invariant-loop-p l = (q : ℕ) → q < l.p → slice_index l.symbols q ≡ slice_index l.bytes q % 2 ^ l.bits
