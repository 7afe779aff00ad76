use Rattle.std.proofs.Common.{◌≡◌, ◌++◌, filter}
use Rattle.cab_curve.specs.Points.{is_on_curve}
use Rattle.cab_curve.proofs.Rows.{row_front}
use Rattle.cab_curve.proofs.equation.Curve.push_row.Given as goal

abbrev pub invariant-loop-y : goal.invariant-loop-y
invariant-loop-y g l = l.points.items ≡ l.initial.points.items ++ filter (is_on_curve (g.F.Field.bits_of l.f) (g.F.Field.modulus_of l.f) l.self.terms) (row_front l.x l.y)
