use Rattle.std.proofs.Common.{ℕ, ◌≡◌, ◌<◌}
use Rattle.gf_linear.specs.Cells.{cell}
use Rattle.gf_linear.specs.Elimination.{beside_unit}
use Rattle.gf_linear.proofs.duals.join_unit.Given as goal

abbrev pub invariant-loop-i : goal.invariant-loop-i
invariant-loop-i l = (q p : ℕ) → q < l.i → p < l.cols → cell l.joined l.cols q p ≡ beside_unit (cell l.entries l.n) l.n q p
