use Rattle.std.proofs.Common.{slice_index}
use Rattle.linear_theory.specs.Linear.{combine}
use Rattle.gf_theory.specs.Field.{gf_mul}
use Rattle.gf_linear.specs.Cells.{cell, AreLanes}
use Rattle.gf_linear.proofs.combining.lane_sums.Given as goal

abbrev pub invariant-loop-i : goal.invariant-loop-i
invariant-loop-i g l = AreLanes (combine (gf_mul (g.F.Field.bits_of l.f) (g.F.Field.modulus_of l.f)) l.i (slice_index l.factors) (cell l.rows l.cols)) l.at l.sums
