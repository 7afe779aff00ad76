use Rattle.std.proofs.Common.{◌≡◌}
use Rattle.error_guess.proofs.guess.Guess.narrow.Given as goal

abbrev pub invariant-loop-row : goal.invariant-loop-row
invariant-loop-row g l = l.self ≡ l.initial.self
