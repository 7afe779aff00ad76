use Rattle.std.proofs.Common.{◌≡◌, ℕ, ◌<◌, length, slice_index}
use Rattle.order_bound.specs.Checking.{IsIndexOf}
use Rattle.order_bound.proofs.checks.indices_of.Given as goal

abbrev pub invariant-loop-label : goal.invariant-loop-label
invariant-loop-label l = record {
  long : length l.indices.items ≡ l.label-index;
  each : (k : ℕ) → k < l.label-index → IsIndexOf l.labels (slice_index l.said k) (slice_index l.indices.items k);
}
