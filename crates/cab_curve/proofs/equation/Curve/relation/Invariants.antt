use Rattle.std.proofs.Common.{◌≡◌, ◌++◌, drop}
use Rattle.gf_theory.specs.Field.{gf_mul}
use Rattle.cab_curve.proofs.Relations.{scaled}
use Rattle.cab_curve.proofs.equation.Curve.relation.Given as goal

abbrev pub invariant-loop-term : goal.invariant-loop-term
invariant-loop-term g l =
    l.terms.items ++ scaled (gf_mul (g.F.Field.bits_of l.f) (g.F.Field.modulus_of l.f)) l.unit l.a (drop l.term-index l.equation)
    ≡ scaled (gf_mul (g.F.Field.bits_of l.f) (g.F.Field.modulus_of l.f)) l.unit l.a l.equation
