use Rattle.std.proofs.Common.{ℕ, ◌≡◌, ◌<◌, ◌^◌, length, slice_index, All}
use Rattle.gf_theory.specs.Field.{gf_mul}
use Rattle.linear_theory.specs.Linear.{combine}
use Rattle.gf_linear.specs.Cells.{cell}
use Rattle.eval_basis.proofs.elimination.multiply.Given as goal

abbrev pub invariant-loop-p : goal.invariant-loop-p
invariant-loop-p g l = record {
  symbols : All (λ x. x < 2 ^ g.F.Field.bits_of l.f) l.products;
  so_far : (q : ℕ) → q < length l.values →
      slice_index l.products q ≡ combine (gf_mul (g.F.Field.bits_of l.f) (g.F.Field.modulus_of l.f)) l.p (slice_index l.values) (cell l.symbols (length l.values)) q;
}
