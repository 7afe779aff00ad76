use Rattle.code_descriptor.proofs.Moduli.{is_modulus-decides}
use Rattle.code_descriptor.proofs.field_test_decides.Goals as goal

pub returns : goal.returns
returns c = is_modulus-decides
