use Rattle.vote_core.proofs.Confirming.{IsConfirming}
use Rattle.vote_core.proofs.outcome.conclude.Given as goal

abbrev pub invariant-loop-i : goal.invariant-loop-i
invariant-loop-i g l = IsConfirming l.basis l.list l.fn.matrix l.matrix l.k l.i
