use Rattle.std.proofs.Common.{◌≡◌, ◌^◌, filter}
use Rattle.cab_curve.specs.Points.{is_on_curve}
use Rattle.cab_curve.proofs.Rows.{plane_front}
use Rattle.cab_curve.proofs.equation.Curve.all_points.Given as goal

abbrev pub invariant-loop-x : goal.invariant-loop-x
invariant-loop-x g l = l.points.items ≡ filter (is_on_curve (g.F.Field.bits_of l.f) (g.F.Field.modulus_of l.f) l.self.terms) (plane_front (2 ^ g.F.Field.bits_of l.f) l.x)
