use Rattle.std.proofs.Common.{ℕ, ◌≡◌, ◌<◌, length}
use Rattle.std.specs.Prelude.{reverse}
use Rattle.gf_linear.specs.Matrix.{row}
use Rattle.parity_space.proofs.preparing.mirrored.Given as goal

abbrev pub invariant-loop-i : goal.invariant-loop-i
invariant-loop-i l = record {
  cols : l.mirror.cols ≡ l.m.cols;
  rows : length l.mirror.rows ≡ length l.m.rows;
  line : length l.line.items ≡ l.m.cols;
  made : (q : ℕ) → q < l.i → row l.mirror q ≡ reverse (row l.m q);
}
