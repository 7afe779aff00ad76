use Rattle.std.proofs.Common.{subst}
use Rattle.vote_core.specs.Polls.{PollState, Pursues, Comes}
use Rattle.vote_core.specs.Progress.{poll_of}
use Rattle.vote_core.proofs.poll.Poll.step.Goals as goal

pub returns-clause-comes : goal.returns-clause-comes
returns-clause-comes g c = λ v y.
    subst (λ (p : PollState). Pursues c.args.basis.now c.args.classes.now v y p → Comes c.args.basis.now c.args.classes.now v y p (poll_of c.go_on.new.progress) c.go_on.result) c.self.view_is (c.go_on.ensures.comes v y)
