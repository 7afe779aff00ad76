use Rattle.std.proofs.Common.{◌≡◌, None}
use Rattle.cab_curve.specs.First.{least}
use Rattle.cab_curve.specs.Equation.{is_bad_term}
use Rattle.cab_curve.proofs.equation.first_bad_term.Given as goal

abbrev pub invariant-loop-k : goal.invariant-loop-k
invariant-loop-k l = least l.k (is_bad_term l.size l.a l.b l.terms) ≡ None
