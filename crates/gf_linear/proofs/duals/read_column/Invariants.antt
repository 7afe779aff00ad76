use Rattle.std.proofs.Common.{ℕ, ◌≡◌, ◌+◌, ◌<◌, get_or}
use Rattle.gf_linear.specs.Cells.{cell}
use Rattle.gf_linear.proofs.duals.read_column.Given as goal

abbrev pub invariant-loop-j : goal.invariant-loop-j
invariant-loop-j l = (q : ℕ) → q < l.j → get_or l.row q 0 ≡ cell l.joined (l.n + l.n) q (l.n + l.i)
