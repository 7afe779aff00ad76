use Rattle.code_design.proofs.Bounds.{has_small, improved_within, some_large, all_small}
use Rattle.code_design.proofs.plans.design.Goals as goal

pub returns-in-Some-clause-answer : goal.returns-in-Some-clause-answer
returns-in-Some-clause-answer g c = (some_large c.args.basis.now c.args.want c.in-Some.bound c.in-Some.ensures, c.plan_of.ensures.plan)

pub returns-in-Some-clause-fewest : goal.returns-in-Some-clause-fewest
returns-in-Some-clause-fewest g c = record {
  has_small = λ marks serves. has_small c.args.basis.now c.args.want marks serves;
  at_least = λ marks serves. rw c.plan_of.ensures.plan.checks_are (improved_within c.args.basis.now c.args.want marks (has_small c.args.basis.now c.args.want marks serves));
}

pub returns-in-None-clause-answer : goal.returns-in-None-clause-answer
returns-in-None-clause-answer g c = (all_small c.args.basis.now c.args.want c.in-None.ensures, c.most_pairs.ensures)
