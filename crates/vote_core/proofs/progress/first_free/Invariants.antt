use Rattle.std.proofs.Common.{ℕ, ◌≡◌, ◌<◌, ◌≤◌, true}
use Rattle.order_theory.specs.Codes.{marked}
use Rattle.vote_core.proofs.progress.first_free.Given as goal

abbrev pub invariant-loop-k : goal.invariant-loop-k
invariant-loop-k l = (m : ℕ) → l.from ≤ m → m < l.k → marked l.marks m ≡ true
