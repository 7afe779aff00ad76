use Rattle.std.proofs.Common.{List, Bool, ℕ, length, subst, sym}
use Rattle.order_bound.specs.Checking.{IsLeastFree}
use Rattle.order_bound.proofs.checks.is_good_head.Goals as goal

pub returns-in-None : goal.returns-in-None
returns-in-None c h =
    c.in-None.ensures c.args.said.now.bound
    (subst (λ (ps : List ℕ). IsLeastFree (length c.deref-3.result.now) ps c.deref-3.result.now c.args.said.now.bound) (sym c.deref-2.ensures.value)
    (subst (λ (ms : List Bool). IsLeastFree (length ms) c.args.said.now.entries.pairs.items ms c.args.said.now.bound) (sym c.deref-3.ensures.value) h.least))
