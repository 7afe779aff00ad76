use Rattle.order_bound.proofs.Fields.{IsAdding}
use Rattle.order_bound.proofs.reader.add_symbols.Given as goal

abbrev pub invariant-loop : goal.invariant-loop
invariant-loop l = IsAdding l.size l.n l.counter l.line l.fn.at l.at l.fn.duals.items l.duals.items
