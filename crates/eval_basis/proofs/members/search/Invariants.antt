use Rattle.eval_basis.specs.Found.{AreSearched}
use Rattle.eval_basis.proofs.members.search.Given as goal

abbrev pub invariant-loop-i : goal.invariant-loop-i
invariant-loop-i g l = AreSearched (g.D.OrderDomain.domain l.dom) (g.F.Field.modulus_of l.f) l.points l.i l.ranks.items l.vectors.items l.symbols l.order l.used l.old.items l.band.items
