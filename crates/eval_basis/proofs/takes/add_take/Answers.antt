use Rattle.std.proofs.Common.{◌<◌, ◌^◌, ◌∙◌, length, get_or, refl}
use Rattle.std.proofs.lemmas.List.Elements.{All-set}
use Rattle.gf_theory.specs.Field.{gf_mul}
use Rattle.gf_theory.proofs.Product.{gf_mul_comm}
use Rattle.eval_basis.specs.Lists.{IsTakeOf}
use Rattle.eval_basis.proofs.ListSteps.{one_symbol}
use Rattle.eval_basis.proofs.AfterTakes.{takes_added}
use Rattle.eval_basis.proofs.takes.add_take.Goals as goal

pub returns-clause-added : goal.returns-clause-added
returns-clause-added g c =
    let b = g.F.Field.bits_of c.args.f.now in
    let m = g.F.Field.modulus_of c.args.f.now in
    record {
      factor = c.inv-factor.result;
      inverse = gf_mul_comm b m c.inv-factor.result (get_or c.args.products.now c.args.q 0) ∙ c.inv-factor.ensures.inverse;
      numbers_are = c.in_ok-push.ensures.items;
      factors_are = c.in_ok-push-2.ensures.items;
      table_is = c.in_ok-extend_from_slice.ensures.items;
    }

pub returns-clause-takes : goal.returns-clause-takes
returns-clause-takes g c =
    let b = g.F.Field.bits_of c.args.f.now in
    let m = g.F.Field.modulus_of c.args.f.now in
    let ps = c.args.products.now in
    let added : IsTakeOf (gf_mul b m) c.args.q ps c.args.takes.now.numbers.items c.args.takes.now.factors.items c.args.takes.now.products.items c.push.new.self.items c.push-2.new.self.items c.extend_from_slice.new.self.items =
    record {
      factor = c.inv-factor.result;
      inverse = gf_mul_comm b m c.inv-factor.result (get_or ps c.args.q 0) ∙ c.inv-factor.ensures.inverse;
      numbers_are = c.in_ok-push.ensures.items;
      factors_are = c.in_ok-push-2.ensures.items;
      table_is = c.in_ok-extend_from_slice.ensures.items;
    } in
    takes_added (gf_mul b m) b (length ps) c.args.q ps c.args.takes.now.numbers.items c.args.takes.now.factors.items c.args.takes.now.products.items c.push.new.self.items c.push-2.new.self.items c.extend_from_slice.new.self.items
    c.requires.takes added c.requires.list refl c.inv-factor.ensures.result_element (All-set (λ x. x < 2 ^ b) ps c.args.q 1 (one_symbol b m c.bits.ensures.field) c.requires.products)
