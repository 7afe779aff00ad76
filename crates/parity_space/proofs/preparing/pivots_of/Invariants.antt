use Rattle.std.proofs.Common.{length}
use Rattle.gf_linear.specs.Matrix.{entry}
use Rattle.parity_space.proofs.Scans.{IsScanned}
use Rattle.parity_space.proofs.preparing.pivots_of.Given as goal

abbrev pub invariant-loop-j : goal.invariant-loop-j
invariant-loop-j l = IsScanned l.e.cols (length l.e.rows) (entry l.e) l.pivots.items l.j
