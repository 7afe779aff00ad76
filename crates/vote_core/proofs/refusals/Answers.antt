use Rattle.vote_core.proofs.Excluding.{pivot_law, line_law}
use Rattle.vote_core.proofs.refusals.Goals as goal

pub returns-clause-pivots : goal.returns-clause-pivots
returns-clause-pivots c = pivot_law

pub returns-clause-lines : goal.returns-clause-lines
returns-clause-lines c = line_law
