use Rattle.std.proofs.Common.{arith, rules, ◌<◌, ◌^◌, sym, ◌∙◌, subst, List, [], ◌∷◌, ℕ, All}
use Rattle.std.proofs.lemmas.List.Elements.{All-append, All-cons, All-nil}
use Rattle.order_domain.specs.Values.{value_at}
use Rattle.order_domain.proofs.Values.{value_at-is}
use Rattle.eval_basis.proofs.Pushing.{pushed_more, pushed_row}
use Rattle.order_bound.proofs.functions.values_of.Goals as goal

pub loop-i-preserved : goal.loop-i-preserved
loop-i-preserved g c =
    record {
      pushed = pushed_more c.args.end (λ p i. value_at (g.D.OrderDomain.domain c.args.dom.now) (g.F.Field.modulus_of c.args.f.now) c.args.points.now i p) c.loop-i.values.items c.push.new.self.items c.loop-p.p c.loop-i.i c.eval.result c.loop-i.invariant.pushed (search rules)
          (c.eval.ensures.value ∙ sym (value_at-is (g.D.OrderDomain.domain c.args.dom.now) (g.F.Field.modulus_of c.args.f.now) c.args.points.now c.loop-i.i c.loop-p.p (omega arith) (omega arith))) (omega arith);
      symbols = subst (λ (z : List ℕ). All (λ x. x < 2 ^ g.F.Field.bits_of c.args.f.now) z) (sym c.in_ok-push.ensures.items)
          (All-append (λ x. x < 2 ^ g.F.Field.bits_of c.args.f.now) c.loop-i.values.items (c.eval.result ∷ []) c.loop-i.invariant.symbols (All-cons (λ x. x < 2 ^ g.F.Field.bits_of c.args.f.now) c.eval.result [] c.eval.ensures.symbol (All-nil (λ x. x < 2 ^ g.F.Field.bits_of c.args.f.now))));
    }

pub loop-p-preserved : goal.loop-p-preserved
loop-p-preserved g c =
    record {
      pushed = pushed_row c.args.end (λ p i. value_at (g.D.OrderDomain.domain c.args.dom.now) (g.F.Field.modulus_of c.args.f.now) c.args.points.now i p) c.loop-i.values.items c.loop-p.p c.loop-i.i c.loop-i.invariant.pushed (omega arith);
      symbols = c.loop-i.invariant.symbols;
    }
