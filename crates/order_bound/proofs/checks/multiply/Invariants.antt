use Rattle.std.proofs.Common.{ℕ, ◌≡◌, ◌<◌, ◌^◌, slice_index, All}
use Rattle.gf_theory.specs.Field.{gf_mul}
use Rattle.linear_theory.specs.Linear.{combine}
use Rattle.gf_linear.specs.Cells.{cell}
use Rattle.order_bound.proofs.checks.multiply.Given as goal

abbrev pub invariant-loop-p : goal.invariant-loop-p
invariant-loop-p g l = record {
  symbols : All (λ x. x < 2 ^ g.F.Field.bits_of l.f) l.products;
  so_far : (i : ℕ) → i < l.functions →
      slice_index l.products i ≡ combine (gf_mul (g.F.Field.bits_of l.f) (g.F.Field.modulus_of l.f)) l.p (slice_index l.list) (cell l.values l.functions) i;
}
