-- Functions        what a code names of the functions of a domain: how many they are, their labels, the index of the function
--                  that leads the product of two, their values, and the points that they have values at
-- functions_of     the functions of an order domain, without the coefficients that only its laws name
-- values           the values of a function at the points of a list, position by position
-- sum_index        the index of the sum of two functions, or the number of functions where there is none
-- pair_count       how many ordered pairs of functions have function i as their sum
use Rattle.std.specs.Prelude.{ℕ, Bool, Option, unwrap_or, List, map}
use Rattle.counting_theory.specs.Votes.{pairs}
use Rattle.order_domain.specs.Points.{Point}
use Rattle.order_domain.specs.Domain.{Domain}

-- The functions are named by their index, from 0 to count less one. The field is the one of `bits` bits with the given
-- modulus.
pub record Functions : Type 0 where
  pub bits : ℕ
  pub count : ℕ
  pub label : ℕ → ℕ
  pub sum : ℕ → ℕ → Option ℕ
  -- of the modulus, the index and the point
  pub eval : ℕ → ℕ → Point → ℕ
  -- of the modulus and the point
  pub on : ℕ → Point → Bool

abbrev pub functions_of : Domain → Functions
functions_of d = record { bits = d.bits; count = d.count; label = d.label; sum = d.sum; eval = d.eval; on = d.on }

abbrev pub values : Functions → (modulus : ℕ) → List Point → ℕ → List ℕ
values f modulus points i = map (f.eval modulus i) points

abbrev pub sum_index : Functions → ℕ → ℕ → ℕ
sum_index f i j = unwrap_or (f.sum i j) f.count

abbrev pub pair_count : Functions → ℕ → ℕ
pair_count f i = pairs f.count (sum_index f) i
