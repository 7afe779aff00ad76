use Rattle.eval_basis.specs.Found.{AreMarked}
use Rattle.eval_basis.proofs.members.mark_sums.Given as goal

abbrev pub invariant-loop-g : goal.invariant-loop-g
invariant-loop-g g l = AreMarked (g.D.OrderDomain.domain l.dom) l.i l.fn.old l.old
