use Rattle.std.proofs.Common.{ℕ, ◌≡◌, ◌≢◌, ◌-◌, ◌<◌, length, slice_index}
use Rattle.gf_linear.specs.Matrix.{entry}
use Rattle.parity_space.proofs.preparing.write_unit.Given as goal

abbrev pub invariant-loop-t : goal.invariant-loop-t
invariant-loop-t l = record {
  width : length l.line ≡ l.e.cols;
  one : slice_index l.line l.p ≡ 1;
  at_pivots : (u : ℕ) → u < l.t → slice_index l.line (l.e.cols - 1 - slice_index l.pivots u) ≡ entry l.e u (l.e.cols - 1 - l.p);
  elsewhere : (q : ℕ) → q < l.e.cols → q ≢ l.p → ((u : ℕ) → u < l.t → slice_index l.pivots u ≢ l.e.cols - 1 - q) → slice_index l.line q ≡ 0;
}
