use Rattle.eval_basis.proofs.Membership.{rule_law}
use Rattle.eval_basis.proofs.code_by_rule.Goals as goal

pub returns : goal.returns
returns c = rule_law
