use Rattle.std.proofs.Common.{rules, ◌≡◌, ◌<◌, ◌∙◌}
use Rattle.order_theory.specs.Basis.{label, pairs_at}
use Rattle.eval_basis.specs.Rules.{rule_checks}
use Rattle.code_design.proofs.Bounds.{leasts_checked, leasts_left}
use Rattle.code_design.proofs.members.bound_by.Goals as goal
use Rattle.code_design.proofs.members.bound_by.Goals.{then-not-checks, else-not-checks}

pub loop-k-preserved : goal.loop-k-preserved
loop-k-preserved g c =
    let is : rule_checks c.args.rule (label c.args.basis.now c.loop-k.k) (pairs_at c.args.basis.now c.loop-k.k) ≡ c.checks.result = search rules in
    let l : c.loop-k.k < c.args.basis.now.n = search rules in
    elim c.if-not-checks.branch [
      | then-not-checks w ↦
          let f : w.pairs-then-not-checks.result ≡ pairs_at c.args.basis.now c.loop-k.k = w.pairs-then-not-checks.ensures.value in
          rw (w.least-is, w.lesser.ensures, f) (leasts_left c.args.basis.now c.args.rule c.loop-k.k c.loop-k.least l c.loop-k.invariant (is ∙ w.if-not-checks.true))
      | else-not-checks w ↦ rw w.least-is (leasts_checked c.args.basis.now c.args.rule c.loop-k.k c.loop-k.least l c.loop-k.invariant (is ∙ w.if-not-checks.false))
    ]
