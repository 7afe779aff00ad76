use Rattle.std.proofs.Common.{ℕ, ◌≡◌, ◌<◌, ◌≤◌, length, filter, slice_index}
use Rattle.std.specs.List.{range_with_len}
use Rattle.erase_code.specs.Filling.{is_lost}
use Rattle.erase_code.proofs.marks.positions.Given as goal

abbrev pub invariant-loop-p : goal.invariant-loop-p
invariant-loop-p l = record {
  positions : l.positions.items ≡ filter (is_lost l.lost) (range_with_len 0 l.p);
  within : (i : ℕ) → i < length l.positions.items → slice_index l.positions.items i < l.p;
  few : length l.positions.items ≤ l.p;
}
