use Rattle.descriptor_design.proofs.Plainly.{has_design, has_no_design}
use Rattle.descriptor_design.proofs.at_points.design_at.Goals as goal

pub returns-in_ok-text-in-Found : goal.returns-in_ok-text-in-Found
returns-in_ok-text-in-Found c = λ p h.
    has_design p c.args.basis.now h c.args.want c.in-Found.plan c.in-Found.ensures.answer.1 c.in-Found.ensures.fewest c.in-Found.ensures.last_stop
    c.in-Found.ensures.stop_label c.in_ok-text-in-Found.text.items c.in_ok-text-in-Found.ensures

pub returns-in-Nothing : goal.returns-in-Nothing
returns-in-Nothing c = λ p h. has_no_design p c.args.basis.now h c.args.want c.in-Nothing.most c.in-Nothing.ensures.answer.0 c.in-Nothing.ensures.answer.1
