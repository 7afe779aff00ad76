use Rattle.std.proofs.Common.{ℕ, ◌≡◌, ◌+◌, ◌*◌, ◌<◌, ◌≤◌, false}
use Rattle.order_theory.specs.Basis.{pairs_at}
use Rattle.order_theory.specs.Codes.{marked}
use Rattle.order_example.proofs.voters.corrects.Given as goal

abbrev pub invariant-loop-k : goal.invariant-loop-k
invariant-loop-k l = (k : ℕ) → k < l.k → marked l.checked k ≡ false → 2 * l.t + 1 ≤ pairs_at l.basis k
