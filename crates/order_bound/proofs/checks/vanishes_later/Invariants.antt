use Rattle.std.proofs.Common.{◌≡◌, ℕ, ◌<◌, slice_index}
use Rattle.order_bound.proofs.checks.vanishes_later.Given as goal

abbrev pub invariant-loop-j : goal.invariant-loop-j
invariant-loop-j l = (j : ℕ) → l.k < j → j < l.j → slice_index l.products (slice_index l.indices j) ≡ 0
