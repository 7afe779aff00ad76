use Rattle.order_example.proofs.Votes.{small_votes, other_votes}
use Rattle.order_example.proofs.small_errors_vote.Goals as goal

pub returns-clause-one_wrong : goal.returns-clause-one_wrong
returns-clause-one_wrong c = small_votes

pub returns-clause-none_wrong : goal.returns-clause-none_wrong
returns-clause-none_wrong c = other_votes
