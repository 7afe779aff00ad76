use Rattle.cab_curve.proofs.Calls.{on_curve-symbols}
use Rattle.cab_curve.proofs.domain.CabDomainOrderDomain.eval.Goals as goal

pub monomial-requires-clause-x : goal.monomial-requires-clause-x
monomial-requires-clause-x g c = rw c.requires.bits (on_curve-symbols _ _ _ c.args.p.now c.requires.on).0

pub monomial-requires-clause-y : goal.monomial-requires-clause-y
monomial-requires-clause-y g c = rw c.requires.bits (on_curve-symbols _ _ _ c.args.p.now c.requires.on).1
