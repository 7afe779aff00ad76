use Rattle.std.proofs.Common.{ℕ, ◌-◌, ◌<◌, ◌≤◌, length}
use Rattle.product_classes.specs.Columns.{sum_of_class}
use Rattle.product_classes.proofs.columns.classes_below.Given as goal

abbrev pub decreases-loop-low : goal.decreases-loop-low
decreases-loop-low g l = l.high - l.low

abbrev pub invariant-loop-low : goal.invariant-loop-low
invariant-loop-low g l = record {
  order : l.low ≤ l.high;
  within : l.high ≤ length l.lefts;
  below : (c : ℕ) → c < l.low → sum_of_class l.basis l.lefts l.rights c < l.s;
  above : (c : ℕ) → l.high ≤ c → c < length l.lefts → l.s ≤ sum_of_class l.basis l.lefts l.rights c;
}
