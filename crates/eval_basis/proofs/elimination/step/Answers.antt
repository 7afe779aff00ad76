use Rattle.std.proofs.Common.{ℕ, ◌<◌, ◌∙◌, true, length, slice_index, get_or, subst, refl}
use Rattle.std.proofs.Math.ListN.{set}
use Rattle.std.proofs.lemmas.List.{length-set}
use Rattle.eval_basis.proofs.Orders.{order_swapped}
use Rattle.eval_basis.proofs.Settling.{settled_old, settled_new}
use Rattle.eval_basis.proofs.elimination.step.Goals as goal

pub returns-in-None-clause-settled : goal.returns-in-None-clause-settled
returns-in-None-clause-settled g c =
    settled_old (g.F.Field.bits_of c.args.f.now) (g.F.Field.modulus_of c.args.f.now) c.bits.ensures.field (length c.args.products.now) c.args.k c.args.products.now c.args.order.now
    c.args.takes.now.numbers.items c.args.takes.now.factors.items c.args.takes.now.products.items c.args.used.now c.in-None.ensures

pub returns-in_ok-add_take-in-Some-clause-settled : goal.returns-in_ok-add_take-in-Some-clause-settled
returns-in_ok-add_take-in-Some-clause-settled g c =
    let i = c.in-Some.place in
    let k = c.args.k in
    let order = c.args.order.now in
    settled_new (g.F.Field.bits_of c.args.f.now) (g.F.Field.modulus_of c.args.f.now) c.bits.ensures.field (length c.args.products.now) k c.args.products.now order
    c.args.takes.now.numbers.items c.args.takes.now.factors.items c.args.takes.now.products.items c.args.used.now
    i c.add_take.new.takes.numbers.items c.add_take.new.takes.factors.items c.add_take.new.takes.products.items (set (set order i (get_or order k 0)) k (get_or order i 0))
    c.requires.takes c.in_ok-add_take-in-Some.ensures.added (c.requires.numbers i c.in-Some.ensures.1)
    (set c.args.used.now (slice_index order i) true) c.in-Some.ensures.0 (subst (λ (s : ℕ). i < s) c.requires.n_order c.in-Some.ensures.1)
    (λ s. order_swapped order k i s c.in-Some.ensures.0 c.in-Some.ensures.1)
    (length-set (set order i (get_or order k 0)) k (get_or order i 0) ∙ length-set order i (get_or order k 0)) refl
