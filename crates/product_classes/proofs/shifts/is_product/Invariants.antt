use Rattle.std.proofs.Common.{ℕ, ◌≡◌, ◌<◌, slice_index}
use Rattle.gf_theory.specs.Field.{gf_mul}
use Rattle.product_classes.proofs.shifts.is_product.Given as goal

abbrev pub invariant-loop-p : goal.invariant-loop-p
invariant-loop-p g l = (q : ℕ) → q < l.p → gf_mul (g.F.Field.bits_of l.f) (g.F.Field.modulus_of l.f) (slice_index l.x q) (slice_index l.y q) ≡ slice_index l.z q
