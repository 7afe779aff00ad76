use Rattle.order_bound.proofs.Leasts.{Leasts}
use Rattle.order_bound.proofs.distance.bound.Given as goal

abbrev pub invariant-loop-k : goal.invariant-loop-k
invariant-loop-k g l = Leasts l.basis l.checked l.k l.least
