use Rattle.std.proofs.Common.{◌<◌, ◌^◌, All}
use Rattle.gf_theory.specs.Field.{gf_mul}
use Rattle.linear_theory.specs.Linear.{SameSpan, IsReduced}
use Rattle.gf_linear.specs.Cells.{cell}
use Rattle.gf_linear.proofs.elimination.reduce.Given as goal

abbrev pub invariant-loop-j : goal.invariant-loop-j
invariant-loop-j g l = record {
  symbols : All (λ a. a < 2 ^ g.F.Field.bits_of l.f) l.m;
  reduced : IsReduced l.j (cell l.m l.cols) l.rows l.k;
  span : SameSpan (gf_mul (g.F.Field.bits_of l.f) (g.F.Field.modulus_of l.f)) l.cols (cell l.fn.m l.cols) l.rows (cell l.m l.cols) l.rows;
}
