use Rattle.std.proofs.Common.{ℕ, ◌<◌, ◌≤◌, length, get_or}
use Rattle.error_guess.proofs.system.list_unknowns.Given as goal

abbrev pub invariant-loop-i : goal.invariant-loop-i
invariant-loop-i l = record {
  few : l.count ≤ l.i;
  within : (q : ℕ) → q < l.count → get_or l.unknowns q 0 < length l.places;
}
