-- value_at         the value of a function at a place of a list of points, and 0 beyond the functions or the points
-- sum_or_count     the index of a sum, or the number of functions where there is none
-- lead_at          the lead of two functions that have a sum, and else 0
-- HasOrderedValues the values at n points are those of ordered functions, of which exactly n are new
-- ValuesLaw        the theorem: distinct points of a domain give such values
use Rattle.std.specs.Prelude.{ℕ, ◌≡◌, ◌<◌, ◌^◌, cond, ltb, ◌&&◌, is_some, unwrap_or, List, length}
use Rattle.gf_theory.specs.Field.{IsModulus, gf_mul}
use Rattle.linear_theory.specs.Linear.{IsCombination, rank}
use Rattle.order_theory.specs.Domains.{IsOrdered}
use Rattle.order_domain.specs.Points.{Point, point_at}
use Rattle.order_domain.specs.Domain.{Domain, ArePoints, IsOrderDomain, IsSymbol}

unfoldable pub value_at : Domain → (modulus : ℕ) → List Point → ℕ → ℕ → ℕ
value_at d modulus points i p = cond (ltb i d.count && ltb p (length points)) (d.eval modulus i (point_at points p)) 0

unfoldable pub sum_or_count : Domain → ℕ → ℕ → ℕ
sum_or_count d i j = unwrap_or (d.sum i j) d.count

unfoldable pub lead_at : Domain → (modulus : ℕ) → ℕ → ℕ → ℕ
lead_at d modulus i j = cond (ltb i d.count && ltb j d.count && is_some (d.sum i j)) (d.lead modulus i j) 0

pub record HasOrderedValues (d : Domain) (modulus : ℕ) (points : List Point) : Type 0 where
  pub ordered : IsOrdered (2 ^ d.bits) (gf_mul d.bits modulus) (length points) d.count (value_at d modulus points) (sum_or_count d) (lead_at d modulus)
  pub sum_zero : (i : ℕ) → i < d.count → sum_or_count d 0 i ≡ i
  -- every list of symbols is a combination of the functions' values ..
  pub spans : (v : ℕ → ℕ) → ((p : ℕ) → p < length points → IsSymbol d (v p)) →
      IsCombination (gf_mul d.bits modulus) (length points) (value_at d modulus points) d.count v
  -- .. so that as many functions as points are no combination of those before them
  pub new_count : rank (2 ^ d.bits) (gf_mul d.bits modulus) (length points) (value_at d modulus points) d.count ≡ length points

abbrev pub ValuesLaw : Type 0
ValuesLaw =
    (d : Domain) (modulus : ℕ) (points : List Point) → IsOrderDomain d → IsModulus d.bits modulus → ArePoints d modulus points → HasOrderedValues d modulus points
