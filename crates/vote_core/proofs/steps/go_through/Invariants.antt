use Rattle.std.proofs.Common.{ℕ, List, ◌≡◌, length}
use Rattle.vote_core.specs.Polls.{IsReady, Pursues, steps_left}
use Rattle.vote_core.specs.Progress.{poll_of, IsProgress}
use Rattle.vote_core.specs.Voters.{VoterState}
use Rattle.vote_core.proofs.steps.go_through.Given as goal

abbrev pub invariant-loop-found : goal.invariant-loop-found
invariant-loop-found g l = record {
  kept : IsProgress l.progress;
  ready : IsReady l.basis l.classes (poll_of l.progress);
  pursues : (v : VoterState) (y : List ℕ) → Pursues l.basis l.classes v y (poll_of l.fn.progress) → Pursues l.basis l.classes v y (poll_of l.progress);
  room : length l.progress.values.items ≡ length l.fn.progress.values.items;
}

abbrev pub decreases-loop-found : goal.decreases-loop-found
decreases-loop-found g l = steps_left (poll_of l.progress)
