use Rattle.std.proofs.Common.{ℕ, ◌≡◌, List, All, refl, sym, subst, rules}
use Rattle.std.proofs.lemmas.List.Elements.{All-replicate}
use Rattle.product_classes.proofs.listing.new_listing.Goals as goal

pub returns-clause-numbers : goal.returns-clause-numbers
returns-clause-numbers c =
    subst (λ (xs : List ℕ). All (λ x. x ≡ 0) xs) (sym (c.in_ok-vec.ensures.items_if_clones_equal (search rules))) (All-replicate (λ x. x ≡ 0) _ 0 refl)

pub returns-clause-reaches : goal.returns-clause-reaches
returns-clause-reaches c =
    subst (λ (xs : List ℕ). All (λ x. x ≡ 0) xs) (sym (c.in_ok-vec-2.ensures.items_if_clones_equal (search rules))) (All-replicate (λ x. x ≡ 0) _ 0 refl)
