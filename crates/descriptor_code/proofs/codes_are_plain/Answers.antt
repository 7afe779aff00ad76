use Rattle.descriptor_code.proofs.Plainly.{plain_law}
use Rattle.descriptor_code.proofs.codes_are_plain.Goals as goal

pub returns : goal.returns
returns c = plain_law
