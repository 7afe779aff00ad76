use Rattle.std.proofs.Common.{arith}
use Rattle.product_classes.proofs.Staircase.{reaching_none, reaching_more}
use Rattle.product_classes.proofs.reaches.write_reaches.Goals as goal

pub loop-i-init : goal.loop-i-init
loop-i-init g c = reaching_none c.args.basis.now c.args.limit c.n-most.result c.args.reaches.now c.n-most.ensures.value

pub loop-i-preserved : goal.loop-i-preserved
loop-i-preserved g c =
    let i = c.loop-i.i in
    let r = c.reach_of-most.ensures in
    reaching_more c.args.basis.now c.args.limit c.loop-i.i c.loop-i.most c.reach_of-most.result c.loop-i.reaches c.n-most.ensures.sound c.requires.limit (omega (arith, c.requires.rows)) (omega arith) r.within r.last r.after c.loop-i.invariant
