use Rattle.stream_codec.specs.Layouts.{Fits}
use Rattle.small_block.proofs.tests.encoding.missed.Given as goal

abbrev pub invariant-loop-index : goal.invariant-loop-index
invariant-loop-index g l = Fits l.room (g.C.BlockCode.form l.code)
