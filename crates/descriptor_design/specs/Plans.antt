-- What to check at the points of a descriptor so that t errors are repaired, and why no less will do. The rule of the
-- descriptor makes no difference to it.
--
-- Sources: G.-L. Feng, T. R. N. Rao, "Improved geometric Goppa codes, part I: basic theory", IEEE Transactions on Information
-- Theory, 1995; T. Høholdt, J. H. van Lint, R. Pellikaan, "Algebraic geometry codes", in the Handbook of Coding Theory, 1998.
--
-- improved           the test of the improved plan: fewer than 2t + 1 pairs
-- few                the members that have at most 2t pairs, which are those that pass it
-- IsOrderWeight      the weight of the order plan: the least one that serves t
-- HasNoOrder         no weight serves t
-- IsStop             of the members with at most 2t pairs the one with the greatest label
-- IsTied             how the order plan and the stop hang together: a weight above 0 is the label of the stop; where no weight
--                    serves, the stop is the last member, or there is no stop and one member alone
-- HasFewest          each set that serves t has all members with at most 2t pairs, and so at least as many as these
-- order_numbers      the weight of an order plan, how many members it checks, and its bound
-- improved_numbers   2t + 1, how many members have fewer pairs, and the bound of these
-- member_numbers     the label and the pairs of a member
-- HasDesign          a text is the design for t: the order plan or that there is none, the stop or that there is none, the
--                    improved plan, which serves t, and the members that each set that serves t has
-- IsMost             the greatest number of pairs of a member
-- HasNoDesign        no member has more than 2t pairs, so that no set serves t
-- HasMany            some member has more than 2t pairs
-- DesignsFor         what a design answers: its text, or the greatest number of pairs where no set serves t
use Rattle.std.specs.Prelude.{◌≡◌, ℕ, ◌+◌, ◌*◌, ◌<◌, ◌≤◌, Bool, true, List, [], length, map, All, Contains, Option, None, Some, MatchOption, option_map}
use Rattle.code_texts.specs.declared.design.PlanNumbers.{PlanNumbers}
use Rattle.code_texts.specs.declared.design.MemberNumbers.{MemberNumbers}
use Rattle.code_texts.specs.Designs.{design_text_of}
use Rattle.code_descriptor.specs.Parts.{Parts}
use Rattle.descriptor_code.specs.Plain.{functions_in, members, pairs_of}
use Rattle.descriptor_design.specs.declared.at_points.DesignSays.{DesignSays}
use Rattle.descriptor_design.specs.declared.at_points.DesignSays.TheVariants.{Text, Nothing}
use Rattle.descriptor_design.specs.Sets.{Serves, checked_in, bound_of, up_to, fewer_than}

abbrev pub improved : Parts → ℕ → ℕ → Bool
improved p t = fewer_than p (2 * t + 1)

abbrev pub few : Parts → ℕ → List ℕ
few p t = checked_in p (improved p t)

pub record IsOrderWeight (p : Parts) (t weight : ℕ) : Type 0 where
  pub serves : Serves p t (up_to p weight)
  pub least : (s : ℕ) → Serves p t (up_to p s) → weight ≤ s

abbrev pub HasNoOrder : Parts → ℕ → Type 0
HasNoOrder p t = (s : ℕ) → Serves p t (up_to p s) → ⊥

pub record IsStop (p : Parts) (t i : ℕ) : Type 0 where
  pub is_few : Contains (few p t) i
  pub greatest : All (λ j. (functions_in p).label j ≤ (functions_in p).label i) (few p t)

pub record HasFewest (p : Parts) (t : ℕ) : Type 0 where
  pub has_few : (passes : ℕ → Bool) → Serves p t passes → All (λ i. passes i ≡ true) (few p t)
  pub at_least : (passes : ℕ → Bool) → Serves p t passes → length (few p t) ≤ length (checked_in p passes)

abbrev pub IsTied : Parts → Option ℕ → Option ℕ → Type 0
IsTied p (Some weight) (Some i) = 0 < weight → weight ≡ (functions_in p).label i
IsTied p (Some weight) None = weight ≡ 0
IsTied p None (Some i) = All (λ j. j ≤ i) (members p)
IsTied p None None = length (members p) ≡ 1

abbrev pub order_numbers : Parts → ℕ → PlanNumbers
order_numbers p weight =
    record { first = weight; checks = length (checked_in p (up_to p weight)); bound = bound_of p (up_to p weight) }

abbrev pub improved_numbers : Parts → ℕ → PlanNumbers
improved_numbers p t = record { first = 2 * t + 1; checks = length (few p t); bound = bound_of p (improved p t) }

abbrev pub member_numbers : Parts → ℕ → MemberNumbers
member_numbers p i = record { label = (functions_in p).label i; pairs = pairs_of p i }

pub record HasDesign (p : Parts) (t : ℕ) (text : List ℕ) : Type 0 where
  pub order : Option ℕ
  pub stop : Option ℕ
  pub order_is : MatchOption order (HasNoOrder p t) (IsOrderWeight p t)
  pub stop_is : MatchOption stop (few p t ≡ []) (IsStop p t)
  pub tied : IsTied p order stop
  pub serves : Serves p t (improved p t)
  pub fewest : HasFewest p t
  pub text_is : text ≡ design_text_of t (option_map (order_numbers p) order) (option_map (member_numbers p) stop)
      (improved_numbers p t) (map (member_numbers p) (few p t))

pub record IsMost (p : Parts) (most : ℕ) : Type 0 where
  pub reached : Contains (map (pairs_of p) (members p)) most
  pub greatest : All (λ i. pairs_of p i ≤ most) (members p)

pub record HasNoDesign (p : Parts) (t most : ℕ) : Type 0 where
  pub is_most : IsMost p most
  pub at_most : most ≤ 2 * t
  pub none_serves : (passes : ℕ → Bool) → Serves p t passes → ⊥

pub record HasMany (p : Parts) (t : ℕ) : Type 0 where
  pub member : ℕ
  pub is_member : Contains (members p) member
  pub many : 2 * t < pairs_of p member

abbrev pub DesignsFor : Parts → ℕ → DesignSays → Type 0
DesignsFor p t (Text text) = HasDesign p t text.items
DesignsFor p t (Nothing most) = HasNoDesign p t most
