use Rattle.descriptor_code.proofs.OneCode.{one_code}
use Rattle.descriptor_code.proofs.descriptors_describe_one_code.Goals as goal

pub returns : goal.returns
returns c = one_code
