use Rattle.std.proofs.Common.{ℕ, length}
use Rattle.linear_theory.specs.Linear.{IsReduced}
use Rattle.gf_linear.specs.Matrix.{entry}
use Rattle.solution_theory.proofs.Scanning.{IsScan}
use Rattle.erase_code.proofs.solutions.solve_reduced.Given as goal

abbrev pub invariant-loop-j : goal.invariant-loop-j
invariant-loop-j l = (k : ℕ) (h : IsReduced l.e.cols (entry l.e) (length l.e.rows) k) → IsScan k h.pivots l.j l.pivots l.start
