use Rattle.std.proofs.Common.{ℕ, ◌≡◌, ◌≢◌, ◌<◌, ◌+◌, get_or}
use Rattle.linear_theory.specs.Linear.{IsReduced}
use Rattle.gf_linear.specs.Cells.{cell}
use Rattle.gf_linear.proofs.solutions.read_solution.Given as goal

abbrev pub invariant-loop-t : goal.invariant-loop-t
invariant-loop-t l = record {
  low : (h : IsReduced (l.cols + 1) (cell l.joined (l.cols + 1)) l.rows l.count) → (t : ℕ) → t < l.t → h.pivots t < l.cols;
  at_pivots : (h : IsReduced (l.cols + 1) (cell l.joined (l.cols + 1)) l.rows l.count) → (t : ℕ) → t < l.t → get_or l.x (h.pivots t) 0 ≡ cell l.joined (l.cols + 1) t l.cols;
  elsewhere : (h : IsReduced (l.cols + 1) (cell l.joined (l.cols + 1)) l.rows l.count) → (j : ℕ) → ((t : ℕ) → t < l.t → h.pivots t ≢ j) → get_or l.x j 0 ≡ 0;
}
