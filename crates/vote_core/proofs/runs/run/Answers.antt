use Rattle.std.proofs.Common.{◌≡◌, subst}
use Rattle.vote_core.specs.Polls.{Pursues}
use Rattle.vote_core.specs.Progress.{poll_of}
use Rattle.vote_core.specs.declared.progress.Progress.{Progress}
use Rattle.vote_core.proofs.runs.run.Goals as goal

pub returns-clause-says : goal.returns-clause-says
returns-clause-says g c =
    let e : c.answer_none.new.progress ≡ c.args.progress.now = c.answer_none.ensures.same c.if-answer_none.false in
    c.go_through.ensures.says (poll_of c.args.progress.now).voter c.args.list.now
    (subst (λ (p : Progress). Pursues c.args.basis.now c.args.classes.now (poll_of p).voter c.args.list.now (poll_of c.start.new.progress)) e c.start.ensures.pursues)
