use Rattle.std.proofs.Common.{length, slice_index}
use Rattle.order_domain.specs.Values.{sum_or_count}
use Rattle.eval_basis.proofs.Pushing.{IsPushed}
use Rattle.eval_basis.proofs.tables.sums_of.Given as goal

abbrev pub invariant-loop-i : goal.invariant-loop-i
invariant-loop-i g l = IsPushed (length l.ranks) (λ i j. sum_or_count (g.D.OrderDomain.domain l.dom) (slice_index l.ranks i) (slice_index l.ranks j)) l.sums.items l.i 0

abbrev pub invariant-loop-j : goal.invariant-loop-j
invariant-loop-j g l = IsPushed (length l.ranks) (λ i j. sum_or_count (g.D.OrderDomain.domain l.dom) (slice_index l.ranks i) (slice_index l.ranks j)) l.sums.items l.i l.j
