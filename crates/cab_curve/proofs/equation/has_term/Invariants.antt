use Rattle.std.proofs.Common.{◌≡◌, drop}
use Rattle.curve_theory.specs.Curve.{has_term}
use Rattle.cab_curve.proofs.equation.has_term.Given as goal

abbrev pub invariant-loop-term : goal.invariant-loop-term
invariant-loop-term l = has_term (drop l.term-index l.terms) l.i l.j ≡ has_term l.terms l.i l.j
