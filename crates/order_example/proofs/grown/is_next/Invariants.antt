use Rattle.std.proofs.Common.{ℕ, ◌<◌, slice_index}
use Rattle.order_example.proofs.grown.is_next.Given as goal

abbrev pub invariant-loop-p : goal.invariant-loop-p
invariant-loop-p l = (q : ℕ) → q < l.p → l.j < slice_index l.growing.known q
