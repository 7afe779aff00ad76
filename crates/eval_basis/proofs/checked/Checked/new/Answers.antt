use Rattle.std.proofs.Common.{rules, arith, ◌∙◌}
use Rattle.order_theory.specs.Basis.{label, pairs_at}
use Rattle.eval_basis.specs.Rules.{rule_checks}
use Rattle.eval_basis.proofs.Marks.{marks_more, marks_all, counted_yes, counted_no}
use Rattle.eval_basis.proofs.checked.Checked.new.Goals as goal
use Rattle.eval_basis.proofs.checked.Checked.new.Goals.{then-mark, else-mark}

pub loop-k-preserved : goal.loop-k-preserved
loop-k-preserved g c =
    record {
      made = marks_more (λ i. rule_checks c.args.rule (label c.args.basis.now i) (pairs_at c.args.basis.now i)) c.loop-k.k _ c.loop-k.marks.items c.push.new.self.items c.loop-k.invariant.made (search rules) c.in_ok-push.ensures.items;
      counted = elim c.if-mark.branch [
        | then-mark w ↦ w.size-is ∙ counted_yes c.loop-k.marks.items c.push.new.self.items _ c.loop-k.size c.loop-k.invariant.counted c.in_ok-push.ensures.items w.if-mark.true
        | else-mark w ↦ w.size-is ∙ counted_no c.loop-k.marks.items c.push.new.self.items _ c.loop-k.size c.loop-k.invariant.counted c.in_ok-push.ensures.items w.if-mark.false
      ];
      few = elim c.if-mark.branch [
        | then-mark w ↦ omega arith
        | else-mark w ↦ omega arith
      ];
    }

pub returns-clause-long : goal.returns-clause-long
returns-clause-long g c = marks_all (λ i. rule_checks c.args.rule (label c.args.basis.now i) (pairs_at c.args.basis.now i)) c.loop-k.k _ c.loop-k.marks.items c.loop-k.invariant.made (omega arith)
