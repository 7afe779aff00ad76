use Rattle.std.proofs.Common.{ℕ, ◌≡◌, ◌+◌, ◌*◌, ◌<◌, ◌≤◌, false}
use Rattle.order_theory.specs.Basis.{pairs_at}
use Rattle.order_theory.specs.Codes.{marked}
use Rattle.bench_decode.proofs.corrects.Given as goal

abbrev pub invariant-loop-k : goal.invariant-loop-k
invariant-loop-k g l = (k : ℕ) → k < l.k → marked l.checked k ≡ false → 2 * l.radius + 1 ≤ pairs_at l.basis k
