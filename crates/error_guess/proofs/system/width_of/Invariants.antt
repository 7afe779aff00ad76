use Rattle.std.proofs.Common.{◌≤◌}
use Rattle.error_guess.proofs.system.width_of.Given as goal

abbrev pub invariant-loop-q : goal.invariant-loop-q
invariant-loop-q l = l.found ≤ l.q
