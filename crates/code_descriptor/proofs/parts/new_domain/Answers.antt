use Rattle.code_descriptor.proofs.Spaces.{domain_answer}
use Rattle.code_descriptor.proofs.parts.new_domain.Goals as goal

pub returns : goal.returns
returns c = domain_answer c.args.bits c.args.vars c.new.result c.new.ensures.space c.new.ensures.parts
