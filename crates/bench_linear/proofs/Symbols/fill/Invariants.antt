use Rattle.std.proofs.Common.{ℕ, ◌≡◌, ◌<◌, ◌^◌, length, get_or}
use Rattle.bench_linear.proofs.Symbols.fill.Given as goal

abbrev pub invariant-loop-p : goal.invariant-loop-p
invariant-loop-p l = record {
  width : length l.row ≡ length l.fn.row;
  symbols : (q d : ℕ) → q < l.p → get_or l.row q d < 2 ^ 6;
}
