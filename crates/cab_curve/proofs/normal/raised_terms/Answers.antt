use Rattle.std.proofs.Common.{refl}
use Rattle.cab_curve.proofs.NormalLists.{raised_zero, raised_term}
use Rattle.cab_curve.proofs.normal.raised_terms.Goals.{then-c-ne0+in_ok-push, else-c-ne0}
use Rattle.cab_curve.proofs.normal.raised_terms.Goals as goal

pub loop-weight-preserved : goal.loop-weight-preserved
loop-weight-preserved c = elim c.if-c-ne0.branch [
  | then-c-ne0+in_ok-push b ↦
      rw (b.terms-is, b.in_ok-push.ensures.items)
      (raised_term c.args.shift c.loop-weight.weight _ c.args.coefficients.now c.loop-weight.terms.items c.loop-weight.invariant refl b.if-c-ne0.true)
  | else-c-ne0 b ↦ rw b.terms-is (raised_zero c.args.shift c.loop-weight.weight c.args.coefficients.now c.loop-weight.terms.items c.loop-weight.invariant b.if-c-ne0.false)
]
