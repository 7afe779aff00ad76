use Rattle.std.proofs.Common.{ℕ, slice_index, arith}
use Rattle.gf_linear.specs.Nibbles.{looked_up}
use Rattle.gf_linear.proofs.Wides.{lanes_more, lanes_rest}
use Rattle.gf_linear.proofs.lists.add_sixteens.Goals as goal

pub loop-q-preserved : goal.loop-q-preserved
loop-q-preserved c =
    let q = c.loop-q.q in
    let added : ℕ → ℕ = λ p. looked_up c.args.low c.args.high (slice_index c.args.src.now p) in
    let rest = c.loop-q.invariant.rest in
    record {
      done = λ p l. lanes_more 16 q c.args.dst.now c.loop-q.dst c.add_sixteen.new.dst added rest c.loop-q.invariant.done c.add_sixteen.ensures.here c.add_sixteen.ensures.before p (omega arith);
      rest = λ p l. lanes_rest 16 q c.args.dst.now c.loop-q.dst c.add_sixteen.new.dst added rest c.add_sixteen.ensures.after p (omega arith);
    }
