use Rattle.std.proofs.Common.{ℕ, ◌≡◌, ◌+◌, ◌<◌, List, length, drop, slice_index}
use Rattle.gf_linear.specs.Matrix.{row}
use Rattle.parity_space.specs.Forms.{IsUnitWord}
use Rattle.parity_space.proofs.preparing.tails_of.Given as goal

abbrev pub invariant-loop-i : goal.invariant-loop-i
invariant-loop-i l = record {
  rows : length l.tails.rows ≡ length l.places;
  cols : l.first + l.tails.cols ≡ l.e.cols;
  line : length l.line ≡ l.e.cols;
  made : (q : ℕ) → q < l.i → (word : List ℕ) × IsUnitWord l.e l.pivots l.e.cols (slice_index l.places q) word × (row l.tails q ≡ drop l.first word);
}
