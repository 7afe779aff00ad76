use Rattle.std.proofs.Common.{◌+◌, ◌<◌, ◌∙◌, sym, subst, arith, rules}
use Rattle.product_classes.specs.declared.shifts.Shift.{Shift}
use Rattle.product_classes.proofs.Shifting.{IsFilled, none_filled, past_filled, one_filled, filled_all, product_is}
use Rattle.product_classes.proofs.shifts.Shift.fill.Goals as goal
use Rattle.product_classes.proofs.shifts.Shift.fill.Goals.{then-is_product, else-is_product}

pub loop-i-init : goal.loop-i-init
loop-i-init g c =
    let s = c.args.self.now in
    record {
      inside = omega (arith, c.n-n.ensures.sound.sound.shape.some_members);
      filled = none_filled c.args.basis.now c.args.by s.next.len s.back.len c.n-n.result c.fill.new.self.items c.fill-2.new.self.items
          c.n-n.ensures.value (s.next.ok.0 ∙ c.requires.room.n_next) (s.back.ok.0 ∙ c.requires.room.n_back) (c.fill.ensures.items (search rules)) (c.fill-2.ensures.items (search rules));
    }

pub loop-i-preserved : goal.loop-i-preserved
loop-i-preserved g c =
    let b = c.args.basis.now in
    let i = c.loop-i.i in
    let li : c.loop-i.i < c.args.basis.now.n = omega arith in
    let lq : c.in-Some.q < c.args.basis.now.n = c.in-Some.ensures in
    record {
      inside = lq;
      filled = elim c.if-is_product.branch [
        | then-is_product w ↦
            subst (λ (s : Shift). IsFilled b c.args.by (i + 1) s.next.items s.back.items) (sym w.self-is)
            (one_filled b c.args.by i c.in-Some.q c.loop-i.self.next.items c.loop-i.self.back.items li lq
            (product_is b (g.F.Field.bits_of c.field.result.now) (g.F.Field.modulus_of c.field.result.now) c.args.by i c.in-Some.q c.vector.result.now c.vector-in-loop-i.result.now c.vector-in-loop-i-2.result.now
            c.n-n.ensures.sound c.field.ensures.bits c.field.ensures.modulus c.vector.ensures.value c.vector-in-loop-i.ensures.value c.vector-in-loop-i-2.ensures.value lq (c.is_product.ensures.0 w.if-is_product.true))
            c.loop-i.invariant.filled)
        | else-is_product w ↦
            subst (λ (s : Shift). IsFilled b c.args.by (i + 1) s.next.items s.back.items) (sym w.self-is)
            (past_filled b c.args.by i c.loop-i.self.next.items c.loop-i.self.back.items c.loop-i.invariant.filled)
      ];
    }

pub returns-in_default : goal.returns-in_default
returns-in_default g c = filled_all c.args.basis.now c.args.by c.loop-i.i c.loop-i.self c.loop-i.invariant.filled

pub returns : goal.returns
returns g c = filled_all c.args.basis.now c.args.by c.loop-i.i c.loop-i.self c.loop-i.invariant.filled
