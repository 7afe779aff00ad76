use Rattle.std.proofs.Common.{ℕ, List, Contains, ◌↔◌, subst, sym, ◌∙◌}
use Rattle.std.specs.List.Sorted.{IsStrictlyIncreasing}
use Rattle.block_theory.specs.Checks.{IsMessagePlace}
use Rattle.parity_space.proofs.Views.{places_are_exact, places_rise, shown_places}
use Rattle.parity_space.proofs.Parity.places.Goals as goal

pub returns-clause-exactly : goal.returns-clause-exactly
returns-clause-exactly c p =
    subst (λ (r : List ℕ). Contains r p ↔ IsMessagePlace c.args.self.now p)
    (sym (c.deref.ensures.value ∙ shown_places c.self.inside c.self.invariant c.args.self.now c.self.view_is))
    (places_are_exact c.self.inside c.self.invariant c.args.self.now c.self.view_is p)

pub returns-clause-rising : goal.returns-clause-rising
returns-clause-rising c =
    subst IsStrictlyIncreasing
    (sym (c.deref.ensures.value ∙ shown_places c.self.inside c.self.invariant c.args.self.now c.self.view_is))
    (places_rise c.self.inside c.self.invariant c.args.self.now c.self.view_is)
