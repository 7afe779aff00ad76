use Rattle.plain_voter.proofs.Underway.{IsUnderway}
use Rattle.plain_voter.proofs.turns.vote_on_all.Given as goal

abbrev pub invariant-loop-k : goal.invariant-loop-k
invariant-loop-k g l = IsUnderway l.basis l.checked l.initial.work l.work l.lines.items l.k
