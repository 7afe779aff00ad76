-- AreStored     the values of the functions with these indices at the points, row by row
-- AreTables     the tables of these members: labels, pair counts, sums and leads
-- AreFirstLists the unit lists, in the order of their numbers, by position, and no position is used
-- IsOld         the values of function j are a combination of those of the functions before it
-- AreSoFar      the members among the functions below i, and the lists; a function with a mark is old
-- AreWaiting    the functions of a band wait for the lists: the members are those below the first of them, and the functions
--               from there up to `stop` that are not in the band are old
-- ArePending    they wait, and these are the products of their values with the lists before the band
-- AreSearched   the search went through the functions below i: those of a band wait, of which there are none once there are
--               as many members as points
-- AreMarked     the marks of functions after those of the sums with a function were set
-- AreMembers    the members: the indices of the functions that are no combination of the functions before them, as many as
--               there are points, with their values, and lists that are dual to these, row by row
use Rattle.std.specs.Prelude.{◌≡◌, ◌≢◌, ◌⊎◌, ℕ, ◌+◌, ◌*◌, ◌^◌, ◌<◌, ◌≤◌, ◌==◌, Bool, true, Some, List, [], length, slice_index, get_or, count_by, All}
use Rattle.field_theory.specs.Sums.{unit}
use Rattle.gf_theory.specs.Field.{gf_mul}
use Rattle.linear_theory.specs.Linear.{dot, combine, IsCombination}
use Rattle.linear_theory.specs.Functionals.{AreFunctionals}
use Rattle.order_theory.specs.Codes.{marked}
use Rattle.gf_linear.specs.Cells.{cell}
use Rattle.order_domain.specs.declared.Point.{Point}
use Rattle.order_domain.specs.Domain.{Domain}
use Rattle.order_domain.specs.Values.{value_at, sum_or_count, lead_at}
use Rattle.eval_basis.specs.Flat.{IsList, IsTable}
use Rattle.eval_basis.specs.Lists.{list_of, AreLists}

pub record AreStored (d : Domain) (modulus : ℕ) (points : List Point) (ranks vectors : List ℕ) : Type 0 where
  pub n_vectors : length vectors ≡ length ranks * length points
  pub values : (k p : ℕ) → k < length ranks → p < length points → slice_index vectors (k * length points + p) ≡ value_at d modulus points (slice_index ranks k) p

abbrev pub IsOld : Domain → (modulus : ℕ) → List Point → ℕ → Type 0
IsOld d modulus points j = IsCombination (gf_mul d.bits modulus) (length points) (value_at d modulus points) j (value_at d modulus points j)

pub record AreSoFar (d : Domain) (modulus : ℕ) (points : List Point) (i : ℕ) (ranks vectors symbols order : List ℕ) (used old : List Bool) : Type 0 where
  pub functionals : AreFunctionals (2 ^ d.bits) (gf_mul d.bits modulus) (length points) (value_at d modulus points) i (length ranks) (slice_index ranks) (list_of (length points) symbols order)
  pub stored : AreStored d modulus points ranks vectors
  pub are_lists : AreLists d.bits (length points) symbols order used
  pub few : length ranks ≤ length points
  pub n_old : length old ≡ d.count
  pub old_are : (j : ℕ) → j < d.count → marked old j ≡ true → IsOld d modulus points j

pub record AreWaiting (d : Domain) (modulus : ℕ) (points : List Point) (stop : ℕ) (band : List ℕ) : Type 0 where
  pub below : (b : ℕ) → b < length band → slice_index band b < stop
  pub rising : (a b : ℕ) → a < b → b < length band → slice_index band a < slice_index band b
  pub others : (j : ℕ) → get_or band 0 stop ≤ j → j < stop → ((b : ℕ) → b < length band → j ≢ slice_index band b) → IsOld d modulus points j

pub record ArePending (d : Domain) (modulus : ℕ) (points : List Point) (stop : ℕ) (band values products symbols : List ℕ) : Type 0 where
  pub waiting : AreWaiting d modulus points stop band
  pub products_are : (b q : ℕ) → b < length band → q < length points →
      cell products (length points) b q ≡ combine (gf_mul d.bits modulus) (length points) (cell values (length points) b) (cell symbols (length points)) q

pub record AreSearched (d : Domain) (modulus : ℕ) (points : List Point) (i : ℕ) (ranks vectors symbols order : List ℕ) (used old : List Bool) (band : List ℕ)
    : Type 0 where
  pub so_far : AreSoFar d modulus points (get_or band 0 i) ranks vectors symbols order used old
  pub waiting : AreWaiting d modulus points i band
  pub small : length band < 64
  pub full : length points ≤ length ranks → band ≡ []

pub record AreMembers (d : Domain) (modulus : ℕ) (points : List Point) (ranks vectors duals : List ℕ) : Type 0 where
  pub n_ranks : length ranks ≡ length points
  pub below : (k : ℕ) → k < length points → slice_index ranks k < d.count
  pub rising : (j k : ℕ) → j < k → k < length points → slice_index ranks j < slice_index ranks k
  pub fresh : (k : ℕ) → k < length points →
      IsCombination (gf_mul d.bits modulus) (length points) (value_at d modulus points) (slice_index ranks k) (value_at d modulus points (slice_index ranks k)) → ⊥
  pub others : (i : ℕ) → i < d.count → ((k : ℕ) → k < length points → i ≢ slice_index ranks k) →
      IsCombination (gf_mul d.bits modulus) (length points) (value_at d modulus points) i (value_at d modulus points i)
  pub stored : AreStored d modulus points ranks vectors
  pub n_duals : length duals ≡ length points * length points
  pub symbols : (q p : ℕ) → q < length points → p < length points → cell duals (length points) q p < 2 ^ d.bits
  pub dual : (k q : ℕ) → k < length points → q < length points →
      dot (gf_mul d.bits modulus) (length points) (value_at d modulus points (slice_index ranks k)) (cell duals (length points) q) ≡ unit k q

pub record AreTables (d : Domain) (modulus : ℕ) (ranks labels counts sums leads : List ℕ) : Type 0 where
  pub labels_are : IsList (length ranks) (λ k. d.label (slice_index ranks k)) labels
  pub counts_are : IsList (length ranks) (λ k. count_by (λ s. s == slice_index ranks k) sums) counts
  pub sums_are : IsTable (length ranks) (λ i j. sum_or_count d (slice_index ranks i) (slice_index ranks j)) sums
  pub leads_are : IsTable (length ranks) (λ i j. lead_at d modulus (slice_index ranks i) (slice_index ranks j)) leads
  pub lead_symbols : All (λ x. x < 2 ^ d.bits) leads

pub record AreFirstLists (bits n : ℕ) (symbols order : List ℕ) (used : List Bool) : Type 0 where
  pub symbols_are : IsTable n unit symbols
  pub over : All (λ x. x < 2 ^ bits) symbols
  pub order_is : IsList n (λ k. k) order
  pub n_used : length used ≡ n

pub record AreMarked (d : Domain) (i : ℕ) (old now : List Bool) : Type 0 where
  pub marks : (s : ℕ) → marked now s ≡ true → (marked old s ≡ true) ⊎ ((g : ℕ) × (g < d.count) × (d.sum g i ≡ Some s))
