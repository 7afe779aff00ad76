use Rattle.std.proofs.Common.{arith}
use Rattle.small_block.proofs.Words.{same_place, other_place, no_places}
use Rattle.small_block.proofs.distance.Goals as goal
use Rattle.small_block.proofs.distance.Goals.{then-xs-p, else-xs-p}

pub loop-p-preserved : goal.loop-p-preserved
loop-p-preserved c =
    elim c.if-xs-p.branch [
      | then-xs-p w ↦ record { sum = omega (arith, c.loop-p.invariant.sum, w.count-is, other_place c.args.xs.now c.args.ys.now c.loop-p.p c.loop-p-test.true (omega arith) w.if-xs-p.true); few = omega (arith, c.loop-p.invariant.few, w.count-is) }
      | else-xs-p w ↦ record { sum = omega (arith, c.loop-p.invariant.sum, w.count-is, same_place c.args.xs.now c.args.ys.now c.loop-p.p c.loop-p-test.true (omega arith) (grind arith)); few = omega (arith, c.loop-p.invariant.few, w.count-is) }
    ]

pub returns : goal.returns
returns c = omega (arith, c.loop-p.invariant.sum, no_places c.args.xs.now c.args.ys.now c.loop-p.p c.loop-p-test.false)
