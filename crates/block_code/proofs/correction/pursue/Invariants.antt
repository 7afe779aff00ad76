use Rattle.std.proofs.Common.{◌≡◌, length}
use Rattle.vote_core.specs.Polls.{Pursues, steps_left, without_ledger}
use Rattle.block_code.proofs.correction.pursue.Given as goal

abbrev pub invariant-steps : goal.invariant-steps
invariant-steps g l = record {
  pursues : Pursues l.basis l.classes l.fn.poll.voter l.differences l.poll;
  rest : without_ledger l.poll.voter ≡ without_ledger l.fn.poll.voter;
  values : length l.poll.values ≡ length l.fn.poll.values;
  guess : l.guess ≡ l.fn.guess;
  symbols : length l.msg ≡ length l.fn.msg;
  positions : length l.word ≡ l.basis.n;
}

abbrev pub decreases-steps : goal.decreases-steps
decreases-steps g l = steps_left l.poll
