use Rattle.std.proofs.Common.{◌∙◌}
use Rattle.vote_core.proofs.steps.go_on.Goals as goal

pub returns-then-progress-n-clause-comes : goal.returns-then-progress-n-clause-comes
returns-then-progress-n-clause-comes g c = λ v y u. c.end_vote.ensures.comes c.args.basis.now c.args.classes.now v y c.n-n.ensures.sound (c.if-progress-n.true ∙ c.n-n.ensures.value) u
