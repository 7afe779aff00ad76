use Rattle.order_bound.proofs.Lines.{IsReadTo}
use Rattle.order_bound.proofs.reader.read_table.Given as goal

abbrev pub invariant-loop-k : goal.invariant-loop-k
invariant-loop-k l = IsReadTo l.size l.n l.text l.top.checked l.top.bound l.at l.k l.entries
