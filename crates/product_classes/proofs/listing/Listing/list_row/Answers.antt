use Rattle.std.proofs.Common.{ℕ, ◌≡◌, sym, subst, arith}
use Rattle.order_theory.specs.Basis.{sum_at}
use Rattle.product_classes.specs.Listings.{IsListed, seen}
use Rattle.product_classes.proofs.listing.Listing.list_row.Goals as goal

pub note-requires-clause-class : goal.note-requires-clause-class
note-requires-clause-class g c =
    let b = c.args.basis.now in
    let e : sum_at b c.args.i c.index-j.result.now ≡ c.args.s = omega (arith, c.if-sum_at-s.false, c.sum_at.ensures.value) in
    c.in-Some.ensures c.args.i (subst (λ (x : ℕ). IsListed b (seen c.args.self.now) x c.args.i) (sym e) c.requires.listed)
