use Rattle.std.proofs.Common.{◌+◌, ◌*◌, ◌-◌, arith}
use Rattle.gf_linear.proofs.Combinations.{lanes_start, lanes_next}
use Rattle.gf_linear.proofs.combining.block_sums.Goals as goal

pub loop-i-init : goal.loop-i-init
loop-i-init g c =
    let f = c.args.f.now in
    let b = g.F.Field.bits_of f in
    let m = g.F.Field.modulus_of f in
    record {
      first = lanes_start b m c.args.factors.now c.args.rows.now c.args.cols c.args.at;
      second = lanes_start b m c.args.factors.now c.args.rows.now c.args.cols (c.args.at + 32);
      third = lanes_start b m c.args.factors.now c.args.rows.now c.args.cols (c.args.at + 64);
      fourth = lanes_start b m c.args.factors.now c.args.rows.now c.args.cols (c.args.at + 96);
    }

pub loop-i-preserved : goal.loop-i-preserved
loop-i-preserved g c =
    let f = c.args.f.now in
    let b = g.F.Field.bits_of f in
    let m = g.F.Field.modulus_of f in
    let i = c.loop-i.i in
    let cols = c.args.cols in
    let low = c.multiples.result.low in
    let high = c.multiples.result.high in
    record {
      first = lanes_next b m c.args.factors.now c.args.rows.now cols c.args.at i (i * cols + cols - i * cols) low high c.loop-i.first c.add_looked_up-first.result
          (omega arith) (omega (arith, c.requires.room)) c.requires.symbols c.loop-i.invariant.first c.multiples.ensures.lows c.multiples.ensures.highs c.add_looked_up-first.ensures.width
          (c.add_looked_up-first.ensures.value low high c.twice-lows.ensures c.twice-highs.ensures);
      second = lanes_next b m c.args.factors.now c.args.rows.now cols (c.args.at + 32) i (i * cols + cols - i * cols) low high c.loop-i.second c.add_looked_up-second.result
          (omega arith) (omega (arith, c.requires.room)) c.requires.symbols c.loop-i.invariant.second c.multiples.ensures.lows c.multiples.ensures.highs c.add_looked_up-second.ensures.width
          (c.add_looked_up-second.ensures.value low high c.twice-lows.ensures c.twice-highs.ensures);
      third = lanes_next b m c.args.factors.now c.args.rows.now cols (c.args.at + 64) i (i * cols + cols - i * cols) low high c.loop-i.third c.add_looked_up-third.result
          (omega arith) (omega (arith, c.requires.room)) c.requires.symbols c.loop-i.invariant.third c.multiples.ensures.lows c.multiples.ensures.highs c.add_looked_up-third.ensures.width
          (c.add_looked_up-third.ensures.value low high c.twice-lows.ensures c.twice-highs.ensures);
      fourth = lanes_next b m c.args.factors.now c.args.rows.now cols (c.args.at + 96) i (i * cols + cols - i * cols) low high c.loop-i.fourth c.add_looked_up-fourth.result
          (omega arith) (omega (arith, c.requires.room)) c.requires.symbols c.loop-i.invariant.fourth c.multiples.ensures.lows c.multiples.ensures.highs c.add_looked_up-fourth.ensures.width
          (c.add_looked_up-fourth.ensures.value low high c.twice-lows.ensures c.twice-highs.ensures);
    }
