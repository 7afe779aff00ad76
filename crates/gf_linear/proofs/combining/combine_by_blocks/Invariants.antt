use Rattle.std.proofs.Common.{ℕ, ◌≡◌, ◌*◌, ◌<◌, length, slice_index}
use Rattle.linear_theory.specs.Linear.{combine}
use Rattle.gf_theory.specs.Field.{gf_mul}
use Rattle.gf_linear.specs.Cells.{cell}
use Rattle.gf_linear.proofs.combining.combine_by_blocks.Given as goal

abbrev pub invariant-loop-b : goal.invariant-loop-b
invariant-loop-b g l = record {
  done : (q : ℕ) → q < l.b * 128 → q < l.cols
      → slice_index l.sum q ≡ combine (gf_mul (g.F.Field.bits_of l.f) (g.F.Field.modulus_of l.f)) (length l.factors) (slice_index l.factors) (cell l.rows l.cols) q;
}
