use Rattle.order_example.proofs.Symbols.{symbols_more}
use Rattle.order_example.proofs.grown.holds_symbols.Goals as goal

pub loop-i-preserved : goal.loop-i-preserved
loop-i-preserved c = symbols_more c.args.m.now c.loop-i.i c.row.result.now c.row.ensures.row (c.are_symbols.ensures c.if-not-are_symbols.false) c.loop-i.invariant
