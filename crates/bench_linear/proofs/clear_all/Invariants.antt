use Rattle.std.proofs.Common.{◌≡◌, length}
use Rattle.gf_linear.specs.Matrix.{IsOver}
use Rattle.bench_linear.proofs.clear_all.Given as goal

abbrev pub invariant-loop-k : goal.invariant-loop-k
invariant-loop-k g l = record {
  rows : length l.m.rows ≡ length l.fn.m.rows;
  cols : l.m.cols ≡ l.fn.m.cols;
  symbols : IsOver 6 l.m;
}
