use Rattle.std.proofs.Common.{length}
use Rattle.eval_basis.specs.Lists.{list_of}
use Rattle.eval_basis.proofs.Pushing.{IsPushed}
use Rattle.eval_basis.proofs.elimination.in_order.Given as goal

abbrev pub invariant-loop-k : goal.invariant-loop-k
invariant-loop-k l = IsPushed (length l.order) (list_of (length l.order) l.symbols l.order) l.lists.items l.k 0

abbrev pub invariant-loop-p : goal.invariant-loop-p
invariant-loop-p l = IsPushed (length l.order) (list_of (length l.order) l.symbols l.order) l.lists.items l.k l.p
