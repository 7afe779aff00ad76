-- A set of members of a basis is a list of one mark for each member. Its D is the least number of pairs of a member that
-- is not in it (`IsOrderBound`), where there is such a member.
--
-- size_of          the number of members in a set
-- Serves           a set serves t: some member is not in it, and 2t is below its D
-- IsSmall          a member that has at most 2t pairs
-- AreAllSmall      every member has at most 2t pairs
-- HasSmall         a set has all members that have at most 2t pairs
-- IsStop           the stop: of the members with at most 2t pairs, the one with the greatest label
-- HasNoStop        there is no such member
-- up_to            the set of the members with labels at most a weight
-- fewer_than       the set of the members with fewer pairs than a number
-- IsOrderWeight    the weight of the order plan: the least one for which the members with labels at most it serve t
-- HasNoOrder       for no weight do the members with labels at most it serve t
-- improved         the set of the improved plan: the members with fewer than 2t + 1 pairs
-- IsMostPairs      the greatest number of pairs of a member
use Rattle.std.specs.Prelude.{◌≡◌, ℕ, ◌+◌, ◌*◌, ◌<◌, ◌≤◌, Bool, true, List, count_by}
use Rattle.order_theory.specs.Basis.{Basis, label, pairs_at}
use Rattle.order_theory.specs.Codes.{marked, IsOrderBound}
use Rattle.eval_basis.specs.declared.checked.CheckRule.TheVariants.{AtMost, Small}
use Rattle.eval_basis.specs.Rules.{checked_by}

abbrev pub size_of : List Bool → ℕ
size_of marks = count_by (λ m. m) marks

pub record Serves (b : Basis) (marks : List Bool) (t : ℕ) : Type 0 where
  pub bound : ℕ
  pub is_bound : IsOrderBound b marks bound
  pub below : 2 * t < bound

pub record IsSmall (b : Basis) (t k : ℕ) : Type 0 where
  pub within : k < b.n
  pub few_pairs : pairs_at b k ≤ 2 * t

pub record AreAllSmall (b : Basis) (t : ℕ) : Type 0 where
  pub each : (k : ℕ) → k < b.n → IsSmall b t k

pub record HasSmall (b : Basis) (t : ℕ) (marks : List Bool) : Type 0 where
  pub each : (k : ℕ) → IsSmall b t k → marked marks k ≡ true

pub record IsStop (b : Basis) (t k : ℕ) : Type 0 where
  pub is_small : IsSmall b t k
  pub greatest : (j : ℕ) → IsSmall b t j → label b j ≤ label b k

pub record HasNoStop (b : Basis) (t : ℕ) : Type 0 where
  pub none : (k : ℕ) → IsSmall b t k → ⊥

abbrev pub up_to : Basis → ℕ → List Bool
up_to b weight = checked_by b (AtMost weight)

abbrev pub fewer_than : Basis → ℕ → List Bool
fewer_than b pairs = checked_by b (Small pairs)

pub record IsOrderWeight (b : Basis) (t weight : ℕ) : Type 0 where
  pub serves : Serves b (up_to b weight) t
  pub least : (s : ℕ) → Serves b (up_to b s) t → weight ≤ s

pub record HasNoOrder (b : Basis) (t : ℕ) : Type 0 where
  pub none : (s : ℕ) → Serves b (up_to b s) t → ⊥

abbrev pub improved : Basis → ℕ → List Bool
improved b t = fewer_than b (2 * t + 1)

pub record IsMostPairs (b : Basis) (most : ℕ) : Type 0 where
  pub reached : (k : ℕ) × (k < b.n) × (pairs_at b k ≡ most)
  pub greatest : (k : ℕ) → k < b.n → pairs_at b k ≤ most
