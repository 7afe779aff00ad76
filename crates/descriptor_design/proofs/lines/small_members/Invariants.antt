use Rattle.std.proofs.Common.{◌≡◌}
use Rattle.descriptor_design.proofs.Chosen.{so_far}
use Rattle.descriptor_design.proofs.lines.small_members.Given as goal

abbrev pub invariant-loop-k : goal.invariant-loop-k
invariant-loop-k g l = l.members.items ≡ so_far l.basis l.want l.k
