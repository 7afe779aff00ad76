use Rattle.cab_curve.specs.Relation.{HasPowerOfY}
use Rattle.cab_curve.proofs.equation.Curve.power_of_y.Given as goal

abbrev pub invariant-loop : goal.invariant-loop
invariant-loop g l = HasPowerOfY l.self (g.F.Field.modulus_of l.f) l.counter l.power.items
