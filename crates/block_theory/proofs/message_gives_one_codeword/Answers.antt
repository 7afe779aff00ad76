use Rattle.block_theory.proofs.Codewords.{message_law}
use Rattle.block_theory.proofs.message_gives_one_codeword.Goals as goal

pub returns : goal.returns
returns c = message_law
