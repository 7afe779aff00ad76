use Rattle.std.proofs.Common.{ℕ, ◌<◌, ◌≤◌, slice_index}
use Rattle.order_bound.proofs.checks.end_of.Given as goal

abbrev pub invariant-loop-j : goal.invariant-loop-j
invariant-loop-j l = record {
  above : (t : ℕ) → t < l.j → slice_index l.indices t < l.end;
  within : l.end ≤ l.count;
}
