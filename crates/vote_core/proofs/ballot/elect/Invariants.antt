use Rattle.std.proofs.Common.{◌≤◌}
use Rattle.counting_theory.specs.Ballots.{IsTallied, IsCounted}
use Rattle.order_theory.specs.Basis.{times, sum_at, rank_at}
use Rattle.order_theory.specs.Errors.{part_rank}
use Rattle.order_theory.specs.Voting.{vote_at}
use Rattle.vote_core.specs.Votes.{AreVotes}
use Rattle.vote_core.specs.Rooms.{IsScratch}
use Rattle.vote_core.proofs.ballot.elect.Given as goal

abbrev pub invariant-loop-i : goal.invariant-loop-i
invariant-loop-i g l = record {
  scratch : IsScratch l.basis l.scratch;
  votes : IsTallied l.basis.n (part_rank (times l.basis) l.basis l.list) (sum_at l.basis) (vote_at (times l.basis) l.basis l.list l.k) (rank_at l.basis l.k) l.scratch.tally.items l.i 0;
  count : IsCounted l.basis.n (part_rank (times l.basis) l.basis l.list) (sum_at l.basis) (rank_at l.basis l.k) l.candidates l.i;
  few : l.candidates ≤ l.i;
  all_votes : AreVotes l.basis l.list l.k l.scratch.votes.items l.i;
}
