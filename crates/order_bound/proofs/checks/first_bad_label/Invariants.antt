use Rattle.std.proofs.Common.{ℕ, ◌<◌}
use Rattle.order_bound.specs.Checking.{IsLabelBy}
use Rattle.order_bound.proofs.checks.first_bad_label.Given as goal

abbrev pub invariant-loop-k : goal.invariant-loop-k
invariant-loop-k g l = (j : ℕ) → j < l.k → IsLabelBy (g.D.OrderDomain.domain l.dom) l.functions l.rule l.entries.labels.items l.entries.pairs.items l.entries.marks.items l.indices j
