-- IsOrderPlan       the order plan for t: its weight, with how many members have labels at most it, and the D of these
-- HasNoOrderPlan    there is no order plan: its numbers are 0
-- IsPlan            what a plan says for t: the order plan, or that there is none; the stop, or that there is none; and
--                   the improved plan, which serves t, with the number of its members and its D
-- Designs           the answer of a design: a plan, or, exactly where all members have at most 2t pairs, the most pairs
-- IfFound           what is said of a plan that was found
-- HasFewest         each set that serves t has all members with at most 2t pairs, and so at least as many as the improved
--                   plan
-- HasLeastWeight    each weight that serves t is at least that of the order plan; where there is none, none serves
-- HasLastStop       where there is no order plan, the stop is the last member, or there is no stop and one member alone
-- HasStopLabel      a weight of the order plan above 0 is the label of the stop
use Rattle.std.specs.Prelude.{◌≡◌, ℕ, ◌+◌, ◌*◌, ◌<◌, ◌≤◌, Bool, List, Some, None, MatchOption, ⊤}
use Rattle.order_theory.specs.Basis.{Basis, label}
use Rattle.order_theory.specs.Codes.{IsOrderBound}
use Rattle.code_design.specs.declared.plans.Plan.{Plan}
use Rattle.code_design.specs.declared.plans.Designed.{Designed}
use Rattle.code_design.specs.declared.plans.Designed.TheVariants.{Found, Nothing}
use Rattle.code_design.specs.Serving.{size_of, Serves, AreAllSmall, HasSmall, IsStop, HasNoStop, up_to, IsOrderWeight, HasNoOrder, improved, IsMostPairs}

pub record IsOrderPlan (b : Basis) (t weight checks bound : ℕ) : Type 0 where
  pub is_weight : IsOrderWeight b t weight
  pub checks_are : checks ≡ size_of (up_to b weight)
  pub is_bound : IsOrderBound b (up_to b weight) bound

pub record HasNoOrderPlan (b : Basis) (t checks bound : ℕ) : Type 0 where
  pub no_weight : HasNoOrder b t
  pub checks_zero : checks ≡ 0
  pub bound_zero : bound ≡ 0

pub record IsPlan (b : Basis) (t : ℕ) (plan : Plan) : Type 0 where
  pub order_is : MatchOption plan.order
      (HasNoOrderPlan b t plan.order_checks plan.order_bound)
      (λ weight. IsOrderPlan b t weight plan.order_checks plan.order_bound)
  pub stop_is : MatchOption plan.stop (HasNoStop b t) (IsStop b t)
  pub pairs_are : plan.pairs ≡ 2 * t + 1
  pub serves : Serves b (improved b t) t
  pub checks_are : plan.checks ≡ size_of (improved b t)
  pub is_bound : IsOrderBound b (improved b t) plan.bound

abbrev pub Designs : Basis → ℕ → Designed → Type 0
Designs b t (Found plan) = (AreAllSmall b t → ⊥) × IsPlan b t plan
Designs b t (Nothing most) = AreAllSmall b t × IsMostPairs b most

abbrev pub IfFound : Designed → (Plan → Type 0) → Type 0
IfFound (Found plan) P = P plan
IfFound (Nothing most) P = ⊤

pub record HasFewest (b : Basis) (t : ℕ) (plan : Plan) : Type 0 where
  pub has_small : (marks : List Bool) → Serves b marks t → HasSmall b t marks
  pub at_least : (marks : List Bool) → Serves b marks t → plan.checks ≤ size_of marks

pub record HasLeastWeight (b : Basis) (t : ℕ) (plan : Plan) : Type 0 where
  pub at_least : (weight s : ℕ) → plan.order ≡ Some weight → Serves b (up_to b s) t → weight ≤ s
  pub none : (s : ℕ) → plan.order ≡ None → Serves b (up_to b s) t → ⊥

pub record HasLastStop (b : Basis) (plan : Plan) : Type 0 where
  pub last : plan.order ≡ None → (stop : ℕ) → plan.stop ≡ Some stop → stop + 1 ≡ b.n
  pub alone : plan.order ≡ None → plan.stop ≡ None → b.n ≡ 1

pub record HasStopLabel (b : Basis) (plan : Plan) : Type 0 where
  pub of_stop : (weight : ℕ) → plan.order ≡ Some weight → 0 < weight →
      (stop : ℕ) × (plan.stop ≡ Some stop) × (weight ≡ label b stop)
