use Rattle.order_bound.specs.Looking.{AreSaidOf}
use Rattle.order_bound.proofs.members.are_said.Given as goal

abbrev pub invariant-loop-k : goal.invariant-loop-k
invariant-loop-k l = AreSaidOf l.k l.rule l.labels l.counts l.entries.pairs.items l.entries.marks.items
