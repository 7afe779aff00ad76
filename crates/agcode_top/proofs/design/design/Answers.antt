use Rattle.std.proofs.Common.{refl, subst}
use Rattle.code_descriptor.specs.declared.DescCause.TheVariants.{NoPoints}
use Rattle.descriptor_design.specs.Plans.{DesignsFor}
use Rattle.agcode_top.specs.Leaves.{no_code}
use Rattle.agcode_top.proofs.RunLemmas.{has_points-from, points-some, points-none}
use Rattle.agcode_top.proofs.DesignLemmas.{design-has, design-none, design-not-space}
use Rattle.agcode_top.proofs.design.design.Goals as goal

pub returns-then-is_empty-clause-leaves : goal.returns-then-is_empty-clause-leaves
returns-then-is_empty-clause-leaves g c = λ reads tells input report.
    no_code NoPoints refl (design-not-space, points-none _ _ c.args.descriptor.points c.is_empty.ensures c.if-is_empty.true c.points.ensures.points)
    (record { input_still = refl; out_still = refl; report_still = refl })

pub returns-in-Ok-Text-clause-leaves : goal.returns-in-Ok-Text-clause-leaves
returns-in-Ok-Text-clause-leaves g c = λ reads tells input report.
    design-has c.args.asked.now c.args.descriptor reads tells input _ report c.in-Ok-Text.text.items _ _
    (has_points-from c.args.descriptor.points (points-some _ _ _ c.is_empty.ensures c.if-is_empty.false c.points.ensures.points))
    (subst (DesignsFor c.args.descriptor c.args.asked.now.want) c.in-Ok-Text.field-0-is c.in-Ok-Text.ensures) c.deref.ensures.value c.answer.ensures.leaves

pub returns-in-Ok-Nothing-clause-leaves : goal.returns-in-Ok-Nothing-clause-leaves
returns-in-Ok-Nothing-clause-leaves g c = λ reads tells input report.
    design-none c.args.asked.now c.args.descriptor reads _ tells input _ report c.in-Ok-Nothing.most
    (has_points-from c.args.descriptor.points (points-some _ _ _ c.is_empty.ensures c.if-is_empty.false c.points.ensures.points))
    (subst (DesignsFor c.args.descriptor c.args.asked.now.want) c.in-Ok-Nothing.field-0-is c.in-Ok-Nothing.ensures)
