use Rattle.std.proofs.Common.{◌+◌, ◌*◌, ◌-◌, arith}
use Rattle.gf_linear.proofs.Combinations.{lanes_start, lanes_next}
use Rattle.gf_linear.proofs.combining.lane_sums.Goals as goal

pub loop-i-init : goal.loop-i-init
loop-i-init g c = lanes_start (g.F.Field.bits_of c.args.f.now) (g.F.Field.modulus_of c.args.f.now) c.args.factors.now c.args.rows.now c.args.cols c.args.at

pub loop-i-preserved : goal.loop-i-preserved
loop-i-preserved g c =
    let f = c.args.f.now in
    let b = g.F.Field.bits_of f in
    let m = g.F.Field.modulus_of f in
    let i = c.loop-i.i in
    let cols = c.args.cols in
    lanes_next b m c.args.factors.now c.args.rows.now cols c.args.at i (i * cols + cols - i * cols) c.multiples.result.low c.multiples.result.high c.loop-i.sums c.add_looked_up-sums.result
    (omega arith) c.requires.room c.requires.symbols c.loop-i.invariant c.multiples.ensures.lows c.multiples.ensures.highs c.add_looked_up-sums.ensures.width
    (c.add_looked_up-sums.ensures.value c.multiples.result.low c.multiples.result.high c.twice.ensures c.twice-in-loop-i.ensures)
