use Rattle.std.proofs.Common.{arith}
use Rattle.small_block.proofs.Words.{low_all}
use Rattle.small_block.proofs.low_bits.Goals as goal

pub returns : goal.returns
returns c = low_all c.args.got.now c.loop-p.word c.loop-p.p (omega arith) c.loop-p-test.false c.loop-p.invariant
