use Rattle.std.proofs.Common.{ℕ, ◌≡◌, ◌<◌}
use Rattle.gf_linear.specs.Cells.{cell}
use Rattle.gf_linear.specs.Matrix.{entry}
use Rattle.gf_linear.proofs.parts.copy_part.Given as goal

abbrev pub invariant-loop-i : goal.invariant-loop-i
invariant-loop-i l = (q j : ℕ) → q < l.i → j < l.cols → cell l.part l.cols q j ≡ entry l.m q j
