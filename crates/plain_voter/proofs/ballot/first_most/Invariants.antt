use Rattle.std.specs.List.{IsFirstMaxByKey}
use Rattle.plain_voter.proofs.ballot.first_most.Given as goal

abbrev pub invariant-loop-v : goal.invariant-loop-v
invariant-loop-v l = IsFirstMaxByKey (λ x. x) l.tally l.v l.best
