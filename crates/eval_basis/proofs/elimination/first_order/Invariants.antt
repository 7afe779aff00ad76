use Rattle.std.proofs.Common.{ℕ}
use Rattle.eval_basis.specs.Flat.{IsList}
use Rattle.eval_basis.proofs.elimination.first_order.Given as goal

abbrev pub invariant-loop-k : goal.invariant-loop-k
invariant-loop-k l = IsList l.k (λ (i : ℕ). i) l.order.items
