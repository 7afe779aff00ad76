-- The words so far are too far off.
use Rattle.std.proofs.Common.{◌≡◌, drop}
use Rattle.stored_form.specs.Search.{first_within}
use Rattle.small_block.proofs.search.Given as goal

abbrev pub invariant-loop-candidate : goal.invariant-loop-candidate
invariant-loop-candidate l = first_within 2 l.words l.got ≡ first_within 2 (drop l.candidate-index l.words) l.got
