-- The list of the monomials of a space of `vars` variables, whose coordinates have `size` values.
--
-- IsOrderedList    the list has each monomial of the space exactly once, in order
-- sum_of           the index of the product of the monomials at two indices, where the list has it
-- is_pair          whether the product of the monomials at two indices is the one at a third
-- pairs            how many ordered pairs of indices have a given sum
-- HasSums          sums are indices of products, are the same in either order and rise, and 0 is neutral for them
-- HasPairs         the number of pairs of each index
-- OrderedListLaw   the theorem: a space of 1 to 3 variables has an ordered list
-- SumsLaw          the theorem: it has sums
-- PairsLaw         the theorem: it has pairs
use Rattle.std.specs.Prelude.{◌≡◌, ℕ, ◌+◌, ◌*◌, ◌<◌, ◌≤◌, Bool, cond, leb, eqb, Option, Some, None, unwrap_or}
use Rattle.field_theory.specs.Sums.{count_pairs}
use Rattle.theory_affine.specs.Monomials.{Monomial, degree, times, top_degree, IsListed, IsBefore, place}
use Rattle.theory_affine.specs.Monomials.{monomial_at, monomial_count}

-- monomial_at and place are inverse to each other, so that each monomial of the space stands in the list exactly once
pub record IsOrderedList (size vars : ℕ) : Type 0 where
  pub listed : (i : ℕ) → i < monomial_count size vars → IsListed size vars (monomial_at vars i)
  pub rising : (i j : ℕ) → i < j → j < monomial_count size vars → IsBefore (monomial_at vars i) (monomial_at vars j)
  pub place_of : (i : ℕ) → i < monomial_count size vars → place vars (monomial_at vars i) ≡ i
  pub within : (m : Monomial) → IsListed size vars m → place vars m < monomial_count size vars
  pub complete : (m : Monomial) → IsListed size vars m → monomial_at vars (place vars m) ≡ m

unfoldable pub sum_of : (size vars i j : ℕ) → Option ℕ
sum_of size vars i j =
    let m = times (monomial_at vars i) (monomial_at vars j) in
    cond (leb (degree m) (top_degree size vars)) (Some (place vars m)) None

unfoldable pub is_pair : (size vars s i j : ℕ) → Bool
is_pair size vars s i j = eqb (unwrap_or (sum_of size vars i j) (monomial_count size vars)) s

unfoldable pub pairs : (size vars s : ℕ) → ℕ
pairs size vars s = count_pairs (monomial_count size vars) (is_pair size vars s)

-- the monomial with the exponents x, y and z is the product of (x + 1)·(y + 1)·(z + 1) pairs
pub record HasPairs (size vars : ℕ) : Type 0 where
  pub number : (s : ℕ) → s < monomial_count size vars →
      pairs size vars s ≡ ((monomial_at vars s).x + 1) * ((monomial_at vars s).y + 1) * ((monomial_at vars s).z + 1)

pub record HasSums (size vars : ℕ) : Type 0 where
  pub within : (i j s : ℕ) → i < monomial_count size vars → j < monomial_count size vars →
      sum_of size vars i j ≡ Some s →
      (s < monomial_count size vars) × (monomial_at vars s ≡ times (monomial_at vars i) (monomial_at vars j))
  pub commute : (i j : ℕ) → sum_of size vars i j ≡ sum_of size vars j i
  pub smaller : (i j k l s : ℕ) → i < monomial_count size vars → j < monomial_count size vars →
      sum_of size vars i j ≡ Some s → k ≤ i → l ≤ j → k + l < i + j → (t : ℕ) × (sum_of size vars k l ≡ Some t) × (t < s)
  pub zero_neutral : (i : ℕ) → i < monomial_count size vars → sum_of size vars 0 i ≡ Some i

abbrev pub OrderedListLaw : Type 0
OrderedListLaw = (size vars : ℕ) → 1 ≤ vars → vars ≤ 3 → IsOrderedList size vars

abbrev pub SumsLaw : Type 0
SumsLaw = (size vars : ℕ) → 1 ≤ vars → vars ≤ 3 → HasSums size vars

abbrev pub PairsLaw : Type 0
PairsLaw = (size vars : ℕ) → 1 ≤ vars → vars ≤ 3 → HasPairs size vars
