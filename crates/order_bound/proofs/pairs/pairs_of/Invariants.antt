use Rattle.std.proofs.Common.{◌≡◌, ◌≤◌}
use Rattle.order_bound.specs.Checking.{AreRowsBeyond}
use Rattle.order_bound.proofs.Staircase.{counted_rows}
use Rattle.order_bound.proofs.pairs.pairs_of.Given as goal

abbrev pub invariant-loop-i : goal.invariant-loop-i
invariant-loop-i g l = record {
  end : l.end ≤ (g.D.OrderDomain.domain l.dom).count;
  beyond : AreRowsBeyond (g.D.OrderDomain.domain l.dom) l.r l.i l.end;
  counted : l.count ≡ counted_rows (g.D.OrderDomain.domain l.dom) l.r l.i;
  few : l.count ≤ l.i;
}
