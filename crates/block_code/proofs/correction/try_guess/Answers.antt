use Rattle.block_code.proofs.Again.{codeword_of}
use Rattle.block_code.proofs.correction.try_guess.Goals as goal

pub within-requires-clause-codeword : goal.within-requires-clause-codeword
within-requires-clause-codeword g c = codeword_of c.args.code.now c.take_message.ensures.made c.correct.new.msg c.encode_block.new.word c.encode_block.ensures.word
