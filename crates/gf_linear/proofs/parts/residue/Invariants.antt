use Rattle.std.proofs.Common.{◌≡◌, ◌<◌, ◌-◌, ◌^◌, slice_index}
use Rattle.gf_theory.specs.Field.{gf_mul}
use Rattle.linear_theory.specs.Linear.{IsReduced}
use Rattle.gf_linear.specs.Cells.{cell}
use Rattle.gf_linear.specs.Elimination.{residue_of}
use Rattle.gf_linear.proofs.parts.residue.Given as goal

abbrev pub invariant-loop-t : goal.invariant-loop-t
invariant-loop-t g l = record {
  symbol : l.sum < 2 ^ g.F.Field.bits_of l.f;
  so_far : (h : IsReduced l.cols (cell l.part l.cols) l.rows l.count) → l.sum ≡ residue_of (gf_mul (g.F.Field.bits_of l.f) (g.F.Field.modulus_of l.f)) l.t h.pivots (slice_index l.row) (cell l.part l.cols) (l.cols - 1);
}
