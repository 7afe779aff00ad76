use Rattle.stream_codec.specs.Rooms.{RoomFits}
use Rattle.small_block.proofs.tests.salvaging.missed.Given as goal

abbrev pub invariant-loop-index : goal.invariant-loop-index
invariant-loop-index g l = RoomFits (g.C.BlockCode.form l.code) (g.C.BlockCode.numbers l.code) l.room
