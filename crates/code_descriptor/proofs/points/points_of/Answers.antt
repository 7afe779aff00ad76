use Rattle.std.proofs.Common.{arith}
use Rattle.code_descriptor.specs.Built.{space_of}
use Rattle.code_descriptor.proofs.PointLoop.{refused_at, all_points}
use Rattle.code_descriptor.proofs.points.points_of.Goals as goal

pub returns-in-None : goal.returns-in-None
returns-in-None c =
    rw c.into.ensures (refused_at c.args.field.now.bits c.args.field.now.modulus (space_of c.args.space.now) c.args.points.now c.loop-k.k c.loop-k.invariant.none c.in-None.ensures.point c.loop-k-test.true)

pub returns : goal.returns
returns c =
    all_points c.args.field.now.bits c.args.field.now.modulus (space_of c.args.space.now) c.args.points.now c.loop-k.k c.loop-k.plain (omega arith) c.loop-k.invariant.none c.loop-k.invariant.items
