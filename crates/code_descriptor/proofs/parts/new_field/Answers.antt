use Rattle.code_descriptor.proofs.Moduli.{field_answer}
use Rattle.code_descriptor.proofs.parts.new_field.Goals as goal

pub returns : goal.returns
returns c = field_answer c.args.bits c.args.modulus c.new.result c.new.ensures
