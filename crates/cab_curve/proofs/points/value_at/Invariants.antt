use Rattle.std.proofs.Common.{◌≡◌, take}
use Rattle.gf_theory.specs.Field.{gf_mul}
use Rattle.curve_theory.specs.Curve.{value}
use Rattle.cab_curve.proofs.points.value_at.Given as goal

abbrev pub invariant-loop-term : goal.invariant-loop-term
invariant-loop-term g l = l.sum ≡ value (gf_mul (g.F.Field.bits_of l.f) (g.F.Field.modulus_of l.f)) (take l.term-index l.terms) l.p.x l.p.y
