use Rattle.std.proofs.Common.{◌≡◌, ℕ, ◌+◌, length, ◌∙◌, ap, subst, arith}
use Rattle.std.proofs.lemmas.List.{get_or_default, length-replicate}
use Rattle.gf_theory.specs.Field.{IsModulus}
use Rattle.cab_curve.proofs.Relations.{power_zero, power_more, symbols_of, written_back}
use Rattle.cab_curve.proofs.equation.Curve.power_of_y.Goals as goal

pub loop-init : goal.loop-init
loop-init g c =
    rw (c.in_ok-power.ensures.items_if_clones_equal (λ y e. e))
    (power_zero c.args.self.now c.b-b.ensures.curve (g.F.Field.modulus_of c.args.f.now) (subst (λ (n : ℕ). IsModulus n (g.F.Field.modulus_of c.args.f.now)) c.requires.bits (g.met.F.Field.is_modulus c.args.f.now)))

pub add_y_times_all-requires-clause-symbols : goal.add_y_times_all-requires-clause-symbols
add_y_times_all-requires-clause-symbols g c =
    rw c.requires.bits
    (symbols_of c.args.self.now _ _ _ _ c.b-b.ensures.curve (subst (λ (n : ℕ). IsModulus n (g.F.Field.modulus_of c.args.f.now)) c.requires.bits (g.met.F.Field.is_modulus c.args.f.now)) c.in_ok-relation.ensures)

pub add_y_times_all-requires-clause-combination : goal.add_y_times_all-requires-clause-combination
add_y_times_all-requires-clause-combination g c = λ k d l.
    rw (c.deref.ensures.value, c.requires.bits) (rw (get_or_default c.loop.power.items k d 0 (rw (← c.deref.ensures.value) l)) (c.loop.invariant.is_form.symbol k))

pub loop-preserved : goal.loop-preserved
loop-preserved g c =
    let fresh : length c.in_ok-next.next.items ≡ c.len.result + c.b-b.result = ap length (c.in_ok-next.ensures.items_if_clones_equal (λ y e. e)) ∙ length-replicate (c.len.result + c.b-b.result) 0 in
    let kept : length c.add_y_times_all.new.sums ≡ length c.in_ok-next.next.items = c.add_y_times_all.auto.sums ∙ ap length c.deref_mut.ensures.value in
    let len : c.in_ok-next.next.len ≡ length c.in_ok-next.next.items = c.in_ok-next.next.ok.0 in
    let power : c.loop.power.len ≡ length c.loop.power.items = c.loop.power.ok.0 in
    let same_b : c.in_ok-relation.relation.semi.b ≡ c.args.self.now.b = c.in_ok-relation.ensures.b_is in
    let whole : length c.add_y_times_all.new.sums ≡ c.in_ok-next.next.len = omega arith in
    let room : length c.add_y_times_all.new.sums ≡ length c.loop.power.items + c.in_ok-relation.relation.semi.b = omega arith in
    rw (written_back c.in_ok-next.next.len c.add_y_times_all.new.sums c.in_ok-next.next.items whole)
    (power_more c.args.self.now c.b-b.ensures.curve (g.F.Field.modulus_of c.args.f.now) (subst (λ (n : ℕ). IsModulus n (g.F.Field.modulus_of c.args.f.now)) c.requires.bits (g.met.F.Field.is_modulus c.args.f.now))
    _ _ c.loop.counter _ c.loop.power.items c.add_y_times_all.new.sums c.in_ok-relation.ensures c.loop.invariant room
    (λ w. rw (← c.requires.bits, ← c.deref.ensures.value) (c.add_y_times_all.ensures w)))
