use Rattle.block_code.proofs.Again.{codeword_of}
use Rattle.block_code.proofs.correction.encode_again.Goals as goal

pub returns-clause-codeword : goal.returns-clause-codeword
returns-clause-codeword g c = codeword_of c.args.code.now c.take_message.ensures.made c.take_message.new.msg c.encode_block.new.word c.encode_block.ensures.word
