use Rattle.std.proofs.Common.{◌≡◌, take}
use Rattle.block_theory.specs.Marked.{chosen}
use Rattle.descriptor_code.proofs.described.chosen_labels.Given as goal

abbrev pub invariant-loop-k : goal.invariant-loop-k
invariant-loop-k g l = l.labels.items ≡ chosen (take l.k l.checked) (take l.k l.basis.labels)
