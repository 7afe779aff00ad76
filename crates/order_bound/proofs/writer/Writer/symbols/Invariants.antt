use Rattle.std.proofs.Common.{◌≡◌, ◌++◌, take}
use Rattle.order_bound.specs.Reading.{symbols}
use Rattle.order_bound.proofs.writer.Writer.symbols.Given as goal

abbrev pub invariant-loop-symbol : goal.invariant-loop-symbol
invariant-loop-symbol l = l.self.text.items ≡ l.fn.self.text.items ++ symbols (take l.symbol-index l.symbols)
