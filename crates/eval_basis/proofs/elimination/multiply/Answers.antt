use Rattle.std.proofs.Common.{◌<◌, ◌*◌, ◌+◌, ◌-◌, ◌^◌, length, arith}
use Rattle.std.proofs.lemmas.List.Elements.{All-set}
use Rattle.gf_theory.specs.Field.{gf_mul}
use Rattle.eval_basis.proofs.Stepping.{field_of}
use Rattle.eval_basis.proofs.ListSteps.{multiplied_used, multiplied_unit}
use Rattle.eval_basis.proofs.elimination.multiply.Goals as goal
use Rattle.eval_basis.proofs.elimination.multiply.Goals.{then-used-p, else-used-p}

pub loop-p-preserved : goal.loop-p-preserved
loop-p-preserved g c =
    let b = g.F.Field.bits_of c.args.f.now in
    let m = g.F.Field.modulus_of c.args.f.now in
    let n = length c.args.values.now in
    let p = c.loop-p.p in
    let values = c.args.values.now in
    let symbols = c.args.symbols.now in
    let here : p < length values = c.loop-p-test.true in
    elim c.if-used-p.branch [
      | then-used-p w ↦
          rw w.products-is (record {
            symbols = w.add_scaled.ensures.symbols;
            so_far = multiplied_used (2 ^ b) (gf_mul b m) (field_of b m c.bits.ensures.field) n p (p * n + n - p * n) values symbols c.loop-p.products w.add_scaled.new.dst
                (omega arith) c.loop-p.invariant.so_far (λ q l. w.add_scaled.ensures.value q (omega arith));
          })
      | else-used-p w ↦
          rw w.products-is (record {
            symbols = All-set (λ x. x < 2 ^ b) c.loop-p.products p w.add.result w.add.ensures.element c.loop-p.invariant.symbols;
            so_far = multiplied_unit (2 ^ b) (gf_mul b m) (field_of b m c.bits.ensures.field) n p w.add.result values symbols c.loop-p.products
                (omega arith) (c.requires.values p 0 here) (λ q l. c.requires.units p q here l w.if-used-p.false) w.add.ensures.sum c.loop-p.invariant.so_far;
          })
    ]
