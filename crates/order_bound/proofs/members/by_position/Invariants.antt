use Rattle.gf_linear.specs.Cells.{cell}
use Rattle.eval_basis.proofs.Pushing.{IsPushed}
use Rattle.order_bound.proofs.members.by_position.Given as goal

abbrev pub invariant-loop-p : goal.invariant-loop-p
invariant-loop-p l = IsPushed l.n (λ p q. cell l.duals l.n q p) l.lists.items l.p 0

abbrev pub invariant-loop-q : goal.invariant-loop-q
invariant-loop-q l = IsPushed l.n (λ p q. cell l.duals l.n q p) l.lists.items l.p l.q
