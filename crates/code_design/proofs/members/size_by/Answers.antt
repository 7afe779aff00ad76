use Rattle.std.proofs.Common.{rules, arith, ◌≡◌, ◌∙◌}
use Rattle.order_theory.specs.Basis.{label, pairs_at}
use Rattle.eval_basis.specs.Rules.{rule_checks}
use Rattle.code_design.proofs.Sizes.{size_more_yes, size_more_no}
use Rattle.code_design.proofs.members.size_by.Goals as goal
use Rattle.code_design.proofs.members.size_by.Goals.{then-checks, else-checks}

pub loop-k-preserved : goal.loop-k-preserved
loop-k-preserved g c =
    let is : rule_checks c.args.rule (label c.args.basis.now c.loop-k.k) (pairs_at c.args.basis.now c.loop-k.k) ≡ c.checks.result = search rules in
    record {
      counted = elim c.if-checks.branch [
        | then-checks w ↦ w.size-is ∙ size_more_yes (λ i. rule_checks c.args.rule (label c.args.basis.now i) (pairs_at c.args.basis.now i)) c.loop-k.k c.loop-k.size c.loop-k.invariant.counted (is ∙ w.if-checks.true)
        | else-checks w ↦ w.size-is ∙ size_more_no (λ i. rule_checks c.args.rule (label c.args.basis.now i) (pairs_at c.args.basis.now i)) c.loop-k.k c.loop-k.size c.loop-k.invariant.counted (is ∙ w.if-checks.false)
      ];
      few = elim c.if-checks.branch [
        | then-checks w ↦ omega arith
        | else-checks w ↦ omega arith
      ];
    }
