use Rattle.std.proofs.Common.{◌≡◌, take}
use Rattle.descriptor_code.proofs.described.member_labels.Given as goal

abbrev pub invariant-loop-k : goal.invariant-loop-k
invariant-loop-k g l = l.labels.items ≡ take l.k l.basis.labels
