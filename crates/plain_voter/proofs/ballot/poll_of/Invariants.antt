use Rattle.plain_voter.specs.Ballots.{IsPolled}
use Rattle.plain_voter.specs.Sheets.{IsSheetOf}
use Rattle.plain_voter.proofs.ballot.poll_of.Given as goal

abbrev pub invariant-loop-i : goal.invariant-loop-i
invariant-loop-i g l = record {
  polled : IsPolled l.basis l.work l.k l.poll.tally.items l.poll.candidates l.i 0;
  sheet : IsSheetOf l.basis l.work l.sheet;
}
