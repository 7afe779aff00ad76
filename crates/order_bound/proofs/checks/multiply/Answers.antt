use Rattle.std.proofs.Common.{◌*◌, ◌+◌, ◌-◌, ◌^◌, length, arith}
use Rattle.gf_theory.specs.Field.{gf_mul}
use Rattle.eval_basis.proofs.Stepping.{field_of}
use Rattle.eval_basis.proofs.ListSteps.{multiplied_used}
use Rattle.order_bound.proofs.checks.multiply.Goals as goal

pub loop-p-preserved : goal.loop-p-preserved
loop-p-preserved g c =
    let b = g.F.Field.bits_of c.args.f.now in
    let m = g.F.Field.modulus_of c.args.f.now in
    let n = length c.args.products.now in
    let p = c.loop-p.p in
    record {
      symbols = c.add_scaled.ensures.symbols;
      so_far = multiplied_used (2 ^ b) (gf_mul b m) (field_of b m c.bits.ensures.field) n p (p * n + n - p * n) c.args.list.now c.args.values.now c.loop-p.products c.add_scaled.new.dst
          (omega arith) c.loop-p.invariant.so_far (λ q l. c.add_scaled.ensures.value q (omega arith));
    }
