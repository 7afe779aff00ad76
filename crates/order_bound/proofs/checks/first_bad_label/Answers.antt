use Rattle.std.proofs.Common.{below_more, rules}
use Rattle.order_bound.specs.Checking.{IsLabelBy}
use Rattle.order_bound.proofs.checks.first_bad_label.Goals as goal

pub loop-k-preserved : goal.loop-k-preserved
loop-k-preserved g c = below_more (IsLabelBy (g.D.OrderDomain.domain c.args.dom.now) c.args.functions.now c.args.rule c.args.entries.now.labels.items c.args.entries.now.pairs.items c.args.entries.now.marks.items c.args.indices.now) _ c.loop-k.invariant (search rules)
