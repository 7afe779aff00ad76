use Rattle.std.proofs.Common.{◌≡◌, ℕ, ◌<◌, ◌≤◌}
use Rattle.gf_linear.specs.Cells.{cell}
use Rattle.gf_linear.proofs.elimination.find_pivot.Given as goal

abbrev pub invariant-loop-i : goal.invariant-loop-i
invariant-loop-i l = (q : ℕ) → l.k ≤ q → q < l.i → cell l.m l.cols q l.j ≡ 0
