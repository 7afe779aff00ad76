use Rattle.std.proofs.Common.{ℕ, ◌≡◌, ◌<◌, ◌≤◌, slice_index}
use Rattle.eval_basis.proofs.elimination.first_seeing.Given as goal

abbrev pub invariant-loop-i : goal.invariant-loop-i
invariant-loop-i l = (t : ℕ) → l.k ≤ t → t < l.i → slice_index l.products (slice_index l.order t) ≡ 0
