use Rattle.std.proofs.Common.{ℕ, ◌≡◌, ◌<◌, ◌^◌, length, slice_index, All}
use Rattle.linear_theory.specs.Linear.{combine}
use Rattle.gf_theory.specs.Field.{gf_mul}
use Rattle.gf_linear.specs.Cells.{cell}
use Rattle.gf_linear.proofs.combining.combine_singly.Given as goal

abbrev pub invariant-loop-i : goal.invariant-loop-i
invariant-loop-i g l = record {
  symbols : All (λ a. a < 2 ^ g.F.Field.bits_of l.f) l.sum;
  value : (q : ℕ) → q < length l.sum → slice_index l.sum q ≡ combine (gf_mul (g.F.Field.bits_of l.f) (g.F.Field.modulus_of l.f)) l.i (slice_index l.factors) (cell l.rows l.cols) q;
}
