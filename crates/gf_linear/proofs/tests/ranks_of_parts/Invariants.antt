use Rattle.std.proofs.Common.{◌≡◌, length}
use Rattle.gf_linear.proofs.tests.ranks_of_parts.Given as goal

abbrev pub invariant-loop-i : goal.invariant-loop-i
invariant-loop-i g l = record {
  rows : length l.room.rows ≡ 3;
  cols : l.room.cols ≡ 3;
}
