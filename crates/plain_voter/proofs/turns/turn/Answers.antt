use Rattle.std.proofs.Common.{arith}
use Rattle.plain_voter.proofs.Counts.{votes-le}
use Rattle.plain_voter.proofs.turns.turn.Goals as goal

pub overflow_sub-result : goal.overflow_sub-result
overflow_sub-result g c = votes-le c.args.basis.now c.args.work.now c.args.k c.in_ok-vote.vote.votes c.in_ok-vote.vote.candidates c.in_ok-vote.vote.winner c.in_ok-vote.ensures.votes c.in_ok-vote.ensures.candidates

pub returns-clause-turn : goal.returns-clause-turn
returns-clause-turn g c =
    let few = votes-le c.args.basis.now c.args.work.now c.args.k c.in_ok-vote.vote.votes c.in_ok-vote.vote.candidates c.in_ok-vote.vote.winner c.in_ok-vote.ensures.votes c.in_ok-vote.ensures.candidates in
    record {
      winner = c.in_ok-vote.vote.winner;
      elected = c.in_ok-vote.ensures.elected;
      moved = c.take_on.ensures.moved;
      line_label = c.label.ensures.value;
      line_pairs = c.pairs.ensures.value;
      line_right = c.in_ok-vote.ensures.votes;
      line_all = omega (arith, few, c.in_ok-vote.ensures.candidates);
    }
