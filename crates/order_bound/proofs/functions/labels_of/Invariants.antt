use Rattle.std.proofs.Common.{ℕ, ◌<◌, ◌^◌}
use Rattle.eval_basis.specs.Flat.{IsList}
use Rattle.order_bound.proofs.functions.labels_of.Given as goal

abbrev pub invariant-loop-i : goal.invariant-loop-i
invariant-loop-i g l = record {
  list : IsList l.i (g.D.OrderDomain.domain l.dom).label l.labels.items;
  fit : (i : ℕ) → i < l.i → (g.D.OrderDomain.domain l.dom).label i < 2 ^ 32;
}
