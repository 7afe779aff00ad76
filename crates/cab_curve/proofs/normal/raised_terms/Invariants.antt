use Rattle.cab_curve.proofs.NormalLists.{AreRaised}
use Rattle.cab_curve.proofs.normal.raised_terms.Given as goal

abbrev pub invariant-loop-weight : goal.invariant-loop-weight
invariant-loop-weight l = AreRaised l.shift l.weight l.coefficients l.terms.items
