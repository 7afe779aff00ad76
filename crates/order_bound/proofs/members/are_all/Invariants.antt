use Rattle.std.proofs.Common.{◌≡◌, ◌≤◌, length}
use Rattle.order_bound.proofs.Looking.{AreLooked}
use Rattle.order_bound.proofs.members.are_all.Given as goal

abbrev pub invariant-loop-i : goal.invariant-loop-i
invariant-loop-i g l = record {
  n_products : length l.products ≡ length l.points;
  n_values : length l.values ≡ length l.points;
  n_old : length l.old ≡ (g.D.OrderDomain.domain l.dom).count;
  few : l.next ≤ l.i;
  looked : AreLooked (g.D.OrderDomain.domain l.dom) (g.F.Field.modulus_of l.f) l.points l.indices l.lists l.i l.next l.old;
}
