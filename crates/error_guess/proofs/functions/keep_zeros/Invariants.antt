use Rattle.std.proofs.Common.{◌≤◌}
use Rattle.error_guess.proofs.functions.keep_zeros.Given as goal

abbrev pub invariant-loop-p : goal.invariant-loop-p
invariant-loop-p l = l.left ≤ l.p
