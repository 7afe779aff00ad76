use Rattle.std.proofs.Common.{ℕ, ◌≡◌, ◌<◌, ◌≤◌, ◌-◌, suc, arith, rules, subst, sym, ap, ◌∙◌, eqb, Option, Some}
use Rattle.std.specs.Option.{option_eq}
use Rattle.order_domain.specs.Values.{sum_or_count}
use Rattle.order_bound.specs.Checking.{AreBeyond}
use Rattle.order_bound.proofs.Staircase.{rows_none, rows_more, rows_from, counted_yes, counted_no, counted_all, counted_end, before_last, sum_is, sum_is_other}
use Rattle.order_bound.proofs.pairs.pairs_of.Goals as goal
use Rattle.order_bound.proofs.pairs.pairs_of.Goals.{then-eq, else-eq}

pub loop-i-init : goal.loop-i-init
loop-i-init g c = record {
  end = omega arith;
  beyond = rows_none (g.D.OrderDomain.domain c.args.dom.now) c.bits.ensures.lawful c.args.r c.requires;
  counted = search rules;
  few = omega arith;
}

pub returns-then-end-eq0 : goal.returns-then-end-eq0
returns-then-end-eq0 g c =
    let d = g.D.OrderDomain.domain c.args.dom.now in
    counted_all d c.bits.ensures.lawful c.args.r c.requires c.loop-i.count c.loop-i.i (omega arith)
    (rows_from d c.bits.ensures.lawful c.args.r c.requires c.loop-i.i (subst (λ (s : ℕ). AreBeyond d c.args.r c.loop-i.i s) c.if-end-eq0.true c.end_of_row-end.ensures.beyond) (omega arith))
    c.loop-i.invariant.counted

pub loop-i-preserved : goal.loop-i-preserved
loop-i-preserved g c =
    let d = g.D.OrderDomain.domain c.args.dom.now in
    let i = c.loop-i.i in
    let end = c.end_of_row-end.result in
    let li : i < d.count = omega arith in
    let is : end ≡ suc (end - 1) = before_last end c.if-end-eq0.false in
    let lj : end - 1 < d.count = omega arith in
    let here : AreBeyond d c.args.r i (suc (end - 1)) = subst (λ (s : ℕ). AreBeyond d c.args.r i s) is c.end_of_row-end.ensures.beyond in
    let low : sum_or_count d i (end - 1) ≤ c.args.r = c.end_of_row-end.ensures.last (end - 1) is in
    let test = ap (λ (o : Option ℕ). option_eq eqb o (Some c.args.r)) (sym c.sum.ensures) ∙ sym c.eq.ensures in
    record {
      end = omega arith;
      beyond = rows_more d c.bits.ensures.lawful c.args.r c.requires i end c.end_of_row-end.ensures.beyond li;
      counted = elim c.if-eq.branch [
        | then-eq w ↦ rw w.count-is (counted_yes d c.bits.ensures.lawful c.args.r c.requires c.loop-i.count i (end - 1) li lj here low (sum_is d i (end - 1) c.args.r (test ∙ w.if-eq.true)) c.loop-i.invariant.counted)
        | else-eq w ↦ rw w.count-is (counted_no d c.bits.ensures.lawful c.args.r c.requires c.loop-i.count i (end - 1) li lj here low (sum_is_other d i (end - 1) c.args.r c.requires (test ∙ w.if-eq.false)) c.loop-i.invariant.counted)
      ];
      few = elim c.if-eq.branch [
        | then-eq w ↦ rw w.count-is (omega arith)
        | else-eq w ↦ rw w.count-is (omega arith)
      ];
    }

pub returns : goal.returns
returns g c = counted_end (g.D.OrderDomain.domain c.args.dom.now) c.bits.ensures.lawful c.args.r c.requires c.loop-i.count c.loop-i.i (omega arith) c.loop-i.invariant.counted
