use Rattle.std.proofs.Common.{◌≡◌, ℕ, ◌<◌, true, MatchOption}
use Rattle.order_theory.specs.Codes.{marked}
use Rattle.order_bound.specs.Checking.{IsLeastFree}
use Rattle.order_bound.proofs.checks.least_free.Given as goal

abbrev pub invariant-loop-k : goal.invariant-loop-k
invariant-loop-k l = MatchOption l.least ((j : ℕ) → j < l.k → marked l.marks j ≡ true) (IsLeastFree l.k l.pairs l.marks)
