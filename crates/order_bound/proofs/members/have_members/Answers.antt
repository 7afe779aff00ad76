use Rattle.std.proofs.Common.{ℕ, ◌^◌, ◌<◌, List, All, length, sym, subst, arith}
use Rattle.std.specs.Prelude.{slice_index}
use Rattle.order_bound.specs.Looking.{AreDualTo}
use Rattle.order_bound.proofs.Looking.{lists_small, members_are}
use Rattle.order_bound.proofs.members.have_members.Goals as goal

pub are_dual-requires-clause-symbols : goal.are_dual-requires-clause-symbols
are_dual-requires-clause-symbols g c =
    subst (λ (z : List ℕ). All (λ x. x < 2 ^ g.F.Field.bits_of c.args.f.now) z) (sym c.deref.ensures.value)
    (lists_small (2 ^ g.F.Field.bits_of c.args.f.now) (length c.args.points.now) c.args.duals.now c.in_ok-lists.lists.items c.requires.fits c.requires.symbols c.in_ok-lists.ensures)

pub are_all-requires-clause-symbols : goal.are_all-requires-clause-symbols
are_all-requires-clause-symbols g c =
    subst (λ (z : List ℕ). All (λ x. x < 2 ^ g.F.Field.bits_of c.args.f.now) z) (sym c.deref-2.ensures.value)
    (lists_small (2 ^ g.F.Field.bits_of c.args.f.now) (length c.args.points.now) c.args.duals.now c.in_ok-lists.lists.items c.requires.fits c.requires.symbols c.in_ok-lists.ensures)

pub returns : goal.returns
returns g c told =
    members_are (g.D.OrderDomain.domain c.args.dom.now) (g.F.Field.modulus_of c.args.f.now) c.args.points.now c.args.indices.now c.in_ok-lists.lists.items c.args.duals.now c.requires.lines
    (λ k l. subst (λ (x : ℕ). slice_index c.args.indices.now k < x) c.count-count.ensures (c.if-not-are_functions.ensures k (omega (arith, c.requires.lines)))) c.requires.fits
    (subst (λ (b : ℕ). All (λ x. x < 2 ^ b) c.args.duals.now) c.requires.bits c.requires.symbols) c.in_ok-lists.ensures
    (subst (λ (z : List ℕ). AreDualTo (g.D.OrderDomain.domain c.args.dom.now) (g.F.Field.modulus_of c.args.f.now) c.args.points.now c.args.indices.now z) c.deref.ensures.value (c.are_dual.ensures c.if-not-are_dual.false))
    (c.are_all.ensures told)
