use Rattle.std.proofs.Common.{◌≡◌, take}
use Rattle.vote_core.proofs.progress.new_progress.Given as goal

abbrev pub invariant-loop-k : goal.invariant-loop-k
invariant-loop-k g l = l.marks.items ≡ take l.k l.checked
