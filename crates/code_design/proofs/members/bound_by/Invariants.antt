use Rattle.order_bound.proofs.Leasts.{Leasts}
use Rattle.eval_basis.specs.Rules.{checked_by}
use Rattle.code_design.proofs.members.bound_by.Given as goal

abbrev pub invariant-loop-k : goal.invariant-loop-k
invariant-loop-k g l = Leasts l.basis (checked_by l.basis l.rule) l.k l.least
