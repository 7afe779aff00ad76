use Rattle.std.proofs.Common.{refl}
use Rattle.small_block.proofs.Words.{skip_word}
use Rattle.small_block.proofs.search.Goals as goal

pub loop-candidate-preserved : goal.loop-candidate-preserved
loop-candidate-preserved c = skip_word c.args.words.now c.args.got.now _ c.loop-candidate.candidate-index c.distance-changes.result c.loop-candidate-test.true refl c.distance-changes.ensures c.if-changes-le2.false c.loop-candidate.invariant
