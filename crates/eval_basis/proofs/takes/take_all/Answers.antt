use Rattle.std.proofs.Common.{◌+◌, ◌*◌, ◌-◌, length, slice_index, sym, arith}
use Rattle.gf_theory.specs.Field.{gf_mul}
use Rattle.eval_basis.proofs.AfterTakes.{after_none, take_one}
use Rattle.eval_basis.proofs.takes.take_all.Goals as goal

pub loop-t-init : goal.loop-t-init
loop-t-init g c =
    let b = g.F.Field.bits_of c.args.f.now in
    let m = g.F.Field.modulus_of c.args.f.now in
    record {
      symbols = c.requires.symbols;
      so_far = λ j l. sym (after_none (gf_mul b m) (length c.args.row.now) c.args.numbers.now c.args.factors.now c.args.products.now (slice_index c.args.row.now) j);
    }

pub loop-t-preserved : goal.loop-t-preserved
loop-t-preserved g c =
    let b = g.F.Field.bits_of c.args.f.now in
    let m = g.F.Field.modulus_of c.args.f.now in
    let n = length c.args.row.now in
    let t = c.loop-t.t in
    record {
      symbols = c.take_at.ensures.symbols;
      so_far = take_one (gf_mul b m) n c.args.numbers.now c.args.factors.now c.args.products.now t (t * n + n - t * n) c.loop-t.row c.take_at.new.row _
          (omega arith) (c.requires.takes.below t c.loop-t-test.true) c.loop-t.invariant.so_far (λ j l. c.take_at.ensures.value j (omega arith));
    }
