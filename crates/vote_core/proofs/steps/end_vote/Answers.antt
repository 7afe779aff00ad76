use Rattle.std.proofs.Common.{ap, arith}
use Rattle.order_theory.specs.Errors.{weight}
use Rattle.vote_core.specs.Progress.{poll_of}
use Rattle.vote_core.specs.declared.progress.Progress.{Progress}
use Rattle.vote_core.proofs.Pursuing.{refused, none_by_weight, says_error}
use Rattle.vote_core.proofs.steps.end_vote.Goals as goal

pub returns-then-weight_of-progress-clause-comes : goal.returns-then-weight_of-progress-clause-comes
returns-then-weight_of-progress-clause-comes c = λ b table v y h end u.
    refused b table v y (poll_of c.args.progress.now) h u (poll_of c.refuse.new.progress) c.refuse.result c.refuse.ensures.far c.refuse.ensures.zeros (ap (λ (p : Progress). (poll_of p).voter) c.refuse.ensures.rest)
    (none_by_weight b table v y (poll_of c.args.progress.now) h u end (omega (arith, c.weight_of.ensures, ap weight c.deref.ensures.value, c.if-weight_of-progress.true)))

pub returns-clause-comes : goal.returns-clause-comes
returns-clause-comes c = λ b table v y h end u.
    says_error b table v y (poll_of c.args.progress.now) h u end (omega (arith, c.weight_of.ensures, ap weight c.deref.ensures.value, c.if-weight_of-progress.false))
