use Rattle.descriptor_design.proofs.Rules.{rule_law}
use Rattle.descriptor_design.proofs.rules_are_sets.Goals as goal

pub returns : goal.returns
returns c = rule_law
