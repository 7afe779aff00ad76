use Rattle.std.proofs.Common.{ℕ, ◌≡◌, ◌+◌, ◌<◌}
use Rattle.gf_linear.specs.Cells.{cell}
use Rattle.gf_linear.proofs.duals.read_columns.Given as goal

abbrev pub invariant-loop-i : goal.invariant-loop-i
invariant-loop-i l = (q j : ℕ) → q < l.i → j < l.n → cell l.entries l.n q j ≡ cell l.joined (l.n + l.n) j (l.n + q)
