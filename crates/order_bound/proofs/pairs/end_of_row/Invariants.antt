use Rattle.order_bound.specs.Checking.{AreBeyond}
use Rattle.order_bound.proofs.pairs.end_of_row.Given as goal

abbrev pub invariant-loop-j : goal.invariant-loop-j
invariant-loop-j g l = AreBeyond (g.D.OrderDomain.domain l.dom) l.r l.i l.j
