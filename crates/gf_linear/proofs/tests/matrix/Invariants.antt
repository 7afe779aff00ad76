use Rattle.std.proofs.Common.{◌≡◌, length}
use Rattle.gf_linear.proofs.tests.matrix.Given as goal

abbrev pub invariant-loop-i : goal.invariant-loop-i
invariant-loop-i g l = record {
  rows : length l.m.rows ≡ length l.rows;
  cols : l.m.cols ≡ g.row.N;
}
