use Rattle.code_descriptor.proofs.OneMeaning.{one_meaning}
use Rattle.code_descriptor.proofs.texts_have_one_meaning.Goals as goal

pub returns : goal.returns
returns c = one_meaning
