use Rattle.std.proofs.Common.{ℕ, ◌<◌, IsTrue}
use Rattle.order_domain.specs.Points.{point_at}
use Rattle.order_domain.proofs.points.all_on.Given as goal

abbrev pub invariant-loop-p : goal.invariant-loop-p
invariant-loop-p g l = (i : ℕ) → i < l.p-index → IsTrue ((g.D.OrderDomain.domain l.dom).on (g.F.Field.modulus_of l.f) (point_at l.points i))
