use Rattle.std.proofs.Common.{ℕ, ◌≡◌, ◌<◌, slice_index}
use Rattle.gf_linear.specs.Cells.{cell}
use Rattle.gf_linear.specs.Elimination.{beside_column}
use Rattle.gf_linear.proofs.solutions.join_sides.Given as goal

abbrev pub invariant-loop-i : goal.invariant-loop-i
invariant-loop-i l = (q p : ℕ) → q < l.i → p < l.wide → cell l.joined l.wide q p ≡ beside_column (cell l.entries l.cols) l.cols (slice_index l.rhs) q p
