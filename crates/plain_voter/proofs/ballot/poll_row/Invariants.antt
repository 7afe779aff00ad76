use Rattle.plain_voter.specs.Ballots.{IsPolled}
use Rattle.plain_voter.specs.Sheets.{IsSheetOf}
use Rattle.plain_voter.proofs.ballot.poll_row.Given as goal

abbrev pub invariant-loop-j : goal.invariant-loop-j
invariant-loop-j g l = record {
  polled : IsPolled l.basis l.work l.k l.poll.tally.items l.poll.candidates l.i l.j;
  sheet : IsSheetOf l.basis l.work l.sheet;
}
