use Rattle.std.proofs.Common.{ℕ, slice_index, arith}
use Rattle.gf_linear.specs.Nibbles.{looked_up}
use Rattle.gf_linear.proofs.Wides.{lanes_more, lanes_rest}
use Rattle.gf_linear.proofs.lists.add_wides.Goals as goal

pub loop-q-preserved : goal.loop-q-preserved
loop-q-preserved c =
    let q = c.loop-q.q in
    let added : ℕ → ℕ = λ p. looked_up c.args.low.now c.args.high.now (slice_index c.args.src.now p) in
    let rest = c.loop-q.invariant.rest in
    record {
      done = λ p l. lanes_more 32 q c.args.dst.now c.loop-q.dst c.add_wide.new.dst added rest c.loop-q.invariant.done
          (c.add_wide.ensures.here c.args.low.now c.args.high.now c.twice-lows.ensures c.twice-highs.ensures) c.add_wide.ensures.before p (omega arith);
      rest = λ p l. lanes_rest 32 q c.args.dst.now c.loop-q.dst c.add_wide.new.dst added rest c.add_wide.ensures.after p (omega arith);
    }
