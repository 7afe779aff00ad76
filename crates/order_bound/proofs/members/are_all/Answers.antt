use Rattle.std.proofs.Common.{◌∙◌, arith, rules, subst, length}
use Rattle.gf_theory.specs.Field.{IsModulus}
use Rattle.order_bound.proofs.Looking.{same_is, looked_none, looked_line, looked_other, looked_all}
use Rattle.order_bound.proofs.members.are_all.Goals as goal
use Rattle.order_bound.proofs.members.are_all.Goals.{then-is_on_line, else-is_on_line+else-not-look_at}

pub loop-i-init : goal.loop-i-init
loop-i-init g c =
    let m : IsModulus (g.D.OrderDomain.domain c.args.dom.now).bits (g.F.Field.modulus_of c.args.f.now) = subst (λ b. IsModulus b (g.F.Field.modulus_of c.args.f.now)) c.requires.bits c.bits.ensures.field in
    record {
      n_products = c.requires.products_room;
      n_values = c.requires.values_room;
      n_old = c.requires.marks;
      few = omega arith;
      looked = looked_none (g.D.OrderDomain.domain c.args.dom.now) (g.F.Field.modulus_of c.args.f.now) c.args.points.now c.bits-2.ensures.lawful m c.requires.points c.args.indices.now c.args.lists.now
          c.requires.dual c.args.old.now c.requires.no_marks;
    }

pub loop-i-preserved : goal.loop-i-preserved
loop-i-preserved g c =
    let m : IsModulus (g.D.OrderDomain.domain c.args.dom.now).bits (g.F.Field.modulus_of c.args.f.now) = subst (λ b. IsModulus b (g.F.Field.modulus_of c.args.f.now)) c.requires.bits c.bits.ensures.field in
    elim c.if-is_on_line.branch [
      | then-is_on_line w ↦
          let on = c.is_on_line.ensures w.if-is_on_line.true in
          rw (w.old-is, w.values-is, w.products-is, w.next-is) (record {
            n_products = c.loop-i.invariant.n_products;
            n_values = c.loop-i.invariant.n_values;
            n_old = c.loop-i.invariant.n_old;
            few = omega arith;
            looked = looked_line (g.D.OrderDomain.domain c.args.dom.now) (g.F.Field.modulus_of c.args.f.now) c.args.points.now c.bits-2.ensures.lawful m c.requires.points c.args.indices.now c.args.lists.now
                c.requires.dual c.loop-i.i c.loop-i.next c.loop-i.old (omega (arith, on.0, c.requires.lines)) on.1 c.loop-i.invariant.looked;
          })
      | else-is_on_line+else-not-look_at w ↦
          rw (w.old-is, w.values-is, w.products-is, w.next-is) (record {
            n_products = w.look_at.auto.products ∙ c.loop-i.invariant.n_products;
            n_values = w.look_at.auto.values ∙ c.loop-i.invariant.n_values;
            n_old = w.look_at.auto.old ∙ c.loop-i.invariant.n_old;
            few = omega arith;
            looked = looked_other (g.D.OrderDomain.domain c.args.dom.now) (g.F.Field.modulus_of c.args.f.now) c.args.points.now c.bits-2.ensures.lawful m c.requires.points c.args.indices.now c.args.lists.now
                c.loop-i.i c.loop-i.next c.loop-i.old w.look_at.new.old (search rules) (w.look_at.ensures.looked w.if-not-look_at.false) (w.look_at.ensures.marks w.if-not-look_at.false) c.loop-i.invariant.looked;
          })
    ]

pub returns : goal.returns
returns g c told =
    looked_all (g.D.OrderDomain.domain c.args.dom.now) (g.F.Field.modulus_of c.args.f.now) c.args.points.now c.bits-2.ensures.lawful
    (subst (λ b. IsModulus b (g.F.Field.modulus_of c.args.f.now)) c.requires.bits c.bits.ensures.field) c.requires.points c.args.indices.now c.args.lists.now
    c.loop-i.i c.loop-i.next c.loop-i.old (same_is c.loop-i.next (length c.args.indices.now) told ∙ c.requires.lines) c.loop-i.invariant.looked
