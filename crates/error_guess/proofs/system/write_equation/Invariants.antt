use Rattle.std.proofs.Common.{ℕ, ◌<◌, All}
use Rattle.error_guess.proofs.system.write_equation.Given as goal

abbrev pub invariant-loop-q : goal.invariant-loop-q
invariant-loop-q l = (size : ℕ) → 0 < size → All (λ x. x < size) l.list → All (λ x. x < size) l.line
