use Rattle.std.proofs.Common.{ℕ, ◌≢◌, ◌<◌}
use Rattle.order_domain.specs.Points.{point_at}
use Rattle.order_domain.proofs.points.are_distinct.Given as goal

abbrev pub invariant-loop-k : goal.invariant-loop-k
invariant-loop-k l = (i j : ℕ) → i < j → j < l.k → point_at l.points i ≢ point_at l.points j
