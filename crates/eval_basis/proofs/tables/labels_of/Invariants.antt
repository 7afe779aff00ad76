use Rattle.std.proofs.Common.{slice_index}
use Rattle.eval_basis.specs.Flat.{IsList}
use Rattle.eval_basis.proofs.tables.labels_of.Given as goal

abbrev pub invariant-loop-rank : goal.invariant-loop-rank
invariant-loop-rank g l = IsList l.rank-index (λ k. (g.D.OrderDomain.domain l.dom).label (slice_index l.ranks k)) l.labels.items
