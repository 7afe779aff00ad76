use Rattle.cab_curve.proofs.Tables.{AreListed}
use Rattle.cab_curve.proofs.functions.functions_up_to.Given as goal

abbrev pub invariant-loop-weight : goal.invariant-loop-weight
invariant-loop-weight l = AreListed l.semi.a l.semi.b l.weight l.rows.items l.places.items
