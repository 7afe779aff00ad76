use Rattle.std.proofs.Common.{ℕ, ◌∙◌, List, [], ◌∷◌, ◌++◌, length, set, sym, subst, rules}
use Rattle.order_theory.specs.Basis.{sum_at}
use Rattle.product_classes.specs.Listings.{IsListed, seen}
use Rattle.product_classes.proofs.Starts.{started}
use Rattle.product_classes.proofs.listing.Listing.start.Goals as goal

pub returns-clause-listed : goal.returns-clause-listed
returns-clause-listed g c =
    let a = c.args.self.now in
    let b = c.args.basis.now in
    let r = c.requires.room in
    let numbers = c.fill.new.self.items in
    let reaches : List ℕ = set c.fill-2.new.self.items 0 1 in
    let rights = c.push_reserved-2.new.self.items in
    let none = c.clear.new.self.items in
    let none_right = c.clear-2.new.self.items in
    subst (λ (ls : List ℕ). IsListed b (record (seen a) { count = length ls; numbers = numbers; reaches = reaches; lefts = ls; rights = rights }) (sum_at b 0 0) 0) (sym c.push_reserved.ensures.items)
    (subst (λ (rs : List ℕ). IsListed b (record (seen a) { count = length (none ++ 0 ∷ []); numbers = numbers; reaches = reaches; lefts = none ++ 0 ∷ []; rights = rs }) (sum_at b 0 0) 0) (sym c.push_reserved-2.ensures.items)
    (started b (seen a) a.numbers.len a.reaches.len numbers c.fill-2.new.self.items none none_right c.n.ensures.sound r.n_is
    (a.numbers.ok.0 ∙ r.n_numbers) (a.reaches.ok.0 ∙ r.n_reaches) (c.fill.ensures.items (search rules)) (c.fill-2.ensures.items (search rules)) c.clear.ensures.items c.clear-2.ensures.items))
