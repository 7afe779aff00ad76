-- Domain           what the calls of an order domain answer, and the coefficients that its laws name
-- IsSymbol         a number is a symbol of the domain
-- combined         a combination of the first functions, at a point
-- AreOn            each point of a list is on the domain
-- ArePoints        the points of a list are distinct, and each is on the domain
-- HasRisingSums    sums are the same in either order, and a smaller pair has a smaller sum
-- IsLedProduct     a product of two functions is their lead times one function, plus a combination of those before it
-- IsSeparated      a combination of the functions is 1 at one of some points and 0 at the others
-- HasNeutral       function 0 is neutral for sums, and all values are symbols
-- IsOrderDomain    the five laws of an order domain
use Rattle.std.specs.Prelude.{ℕ, ◌≡◌, ◌≢◌, ◌+◌, ◌<◌, ◌≤◌, ◌^◌, Bool, IsTrue, Option, Some, List, length, All, AllPairs, bit_xor}
use Rattle.field_theory.specs.Sums.{xor_sum, unit}
use Rattle.gf_theory.specs.Field.{IsModulus, gf_mul}
use Rattle.order_domain.specs.Points.{Point, point_at}

-- The functions of a domain are named by their index, from 0 to count less one. Where a field is needed it is the one of
-- `bits` bits with the given modulus.
pub record Domain : Type 0 where
  pub bits : ℕ
  pub count : ℕ
  pub label : ℕ → ℕ
  pub sum : ℕ → ℕ → Option ℕ
  -- of the modulus, the index and the point
  pub eval : ℕ → ℕ → Point → ℕ
  -- of the modulus and the two indices
  pub lead : ℕ → ℕ → ℕ → ℕ
  -- of the modulus, the two indices, and the index of the function whose coefficient it is
  pub product_coefficient : ℕ → ℕ → ℕ → ℕ → ℕ
  -- of the modulus and the point
  pub on : ℕ → Point → Bool
  -- of the modulus, the points, the place of one of them, and the index of the function whose coefficient it is
  pub separating_coefficient : ℕ → List Point → ℕ → ℕ → ℕ

abbrev pub IsSymbol : Domain → ℕ → Type 0
IsSymbol d x = x < 2 ^ d.bits

-- the sum of coefficient k times function k over the k below r
abbrev pub combined : Domain → (modulus r : ℕ) → (ℕ → ℕ) → Point → ℕ
combined d modulus r coefficients p = xor_sum r (λ k. gf_mul d.bits modulus (coefficients k) (d.eval modulus k p))

abbrev pub AreOn : Domain → (modulus : ℕ) → List Point → Type 0
AreOn d modulus points = All (λ p. IsTrue (d.on modulus p)) points

pub record ArePoints (d : Domain) (modulus : ℕ) (points : List Point) : Type 0 where
  pub distinct : AllPairs (λ p q. p ≢ q) points
  pub all_on : AreOn d modulus points

pub record HasRisingSums (d : Domain) : Type 0 where
  pub within : (i j s : ℕ) → i < d.count → j < d.count → d.sum i j ≡ Some s → s < d.count
  pub commute : (i j : ℕ) → i < d.count → j < d.count → d.sum i j ≡ d.sum j i
  -- i' and j' are at most i and j, and not both equal to them
  pub smaller : (i j i' j' s : ℕ) → i < d.count → j < d.count → d.sum i j ≡ Some s → i' ≤ i → j' ≤ j → i' + j' < i + j →
      (s' : ℕ) × (d.sum i' j' ≡ Some s') × (s' < s)

-- the coefficients are the same at all points
pub record IsLedProduct (d : Domain) (modulus i j s : ℕ) : Type 0 where
  pub lead_not_zero : d.lead modulus i j ≢ 0
  pub symbols : (k : ℕ) → k < s → IsSymbol d (d.product_coefficient modulus i j k)
  pub product : (p : Point) → IsTrue (d.on modulus p) →
      gf_mul d.bits modulus (d.eval modulus i p) (d.eval modulus j p)
      ≡ bit_xor (gf_mul d.bits modulus (d.lead modulus i j) (d.eval modulus s p)) (combined d modulus s (d.product_coefficient modulus i j) p)

pub record IsSeparated (d : Domain) (modulus : ℕ) (points : List Point) (t : ℕ) : Type 0 where
  pub symbols : (k : ℕ) → k < d.count → IsSymbol d (d.separating_coefficient modulus points t k)
  pub values : (q : ℕ) → q < length points → combined d modulus d.count (d.separating_coefficient modulus points t) (point_at points q) ≡ unit t q

pub record HasNeutral (d : Domain) : Type 0 where
  pub sum_zero : (i : ℕ) → i < d.count → d.sum 0 i ≡ Some i
  pub eval_symbol : (modulus i : ℕ) (p : Point) → IsModulus d.bits modulus → i < d.count → IsTrue (d.on modulus p) → IsSymbol d (d.eval modulus i p)
  pub lead_symbol : (modulus i j s : ℕ) → IsModulus d.bits modulus → i < d.count → j < d.count → d.sum i j ≡ Some s → IsSymbol d (d.lead modulus i j)

pub record IsOrderDomain (d : Domain) : Type 0 where
  pub labels_rise : (i j : ℕ) → i < j → j < d.count → d.label i < d.label j
  pub sums_rise : HasRisingSums d
  pub product_law : (modulus i j s : ℕ) → IsModulus d.bits modulus → i < d.count → j < d.count → d.sum i j ≡ Some s → IsLedProduct d modulus i j s
  pub separation : (modulus : ℕ) (points : List Point) (t : ℕ) → IsModulus d.bits modulus → ArePoints d modulus points → t < length points → IsSeparated d modulus points t
  pub neutral : HasNeutral d
