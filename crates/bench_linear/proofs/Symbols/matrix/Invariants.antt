use Rattle.std.proofs.Common.{◌≡◌, length}
use Rattle.gf_linear.specs.Matrix.{IsOver}
use Rattle.bench_linear.proofs.Symbols.matrix.Given as goal

abbrev pub invariant-loop-i : goal.invariant-loop-i
invariant-loop-i l = record {
  width : length l.row.items ≡ l.size;
  rows : length l.m.rows ≡ l.size;
  cols : l.m.cols ≡ l.size;
  symbols : IsOver 6 l.m;
}
