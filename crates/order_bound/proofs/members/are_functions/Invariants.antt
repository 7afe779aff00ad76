use Rattle.std.proofs.Common.{ℕ, ◌<◌, slice_index}
use Rattle.order_bound.proofs.members.are_functions.Given as goal

abbrev pub invariant-loop-k : goal.invariant-loop-k
invariant-loop-k l = (k : ℕ) → k < l.k → slice_index l.indices k < l.count
