use Rattle.std.proofs.Common.{ℕ, ◌≡◌, ◌<◌, length, slice_index}
use Rattle.field_theory.specs.Sums.{unit}
use Rattle.order_bound.specs.Looking.{product_at}
use Rattle.order_bound.proofs.members.are_dual.Given as goal

abbrev pub invariant-loop-k : goal.invariant-loop-k
invariant-loop-k g l = record {
  n_products : length l.products ≡ length l.points;
  n_values : length l.values ≡ length l.points;
  lines : (k q : ℕ) → k < l.k → q < length l.points → product_at (g.D.OrderDomain.domain l.dom) (g.F.Field.modulus_of l.f) l.points l.lists (slice_index l.indices k) q ≡ unit k q;
}
