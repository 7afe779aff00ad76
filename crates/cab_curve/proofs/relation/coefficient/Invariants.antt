use Rattle.std.proofs.Common.{◌≡◌, bit_xor, drop}
use Rattle.curve_theory.specs.Curve.{coefficient}
use Rattle.cab_curve.proofs.relation.coefficient.Given as goal

abbrev pub invariant-loop-term : goal.invariant-loop-term
invariant-loop-term l = bit_xor l.sum (coefficient (drop l.term-index l.terms) l.i l.j) ≡ coefficient l.terms l.i l.j
