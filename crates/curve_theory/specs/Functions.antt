-- IsFunctionProduct        the product of two functions of a curve: a lead times one function, plus a combination of those before it
-- IsCurveSeparation        a combination of the functions that is 1 at one of some points of the curve and 0 at the others
-- HasOrderedFunctions      the functions of a curve, by rising weight: their labels, sums, products and values
-- OrderedFunctionsLaw      the theorem: over every field the functions of every C_ab curve are so
use Rattle.std.specs.Prelude.{◌≡◌, ◌≢◌, ℕ, ◌+◌, ◌<◌, ◌≤◌, Bool, false, eqb, Option, Some, None, List, bit_xor}
use Rattle.field_theory.specs.Field.{IsField}
use Rattle.field_theory.specs.Sums.{xor_sum, unit, count_pairs}
use Rattle.curve_theory.specs.Curve.{Term, IsOnCurve, IsEquation, ArePoints}
use Rattle.curve_theory.specs.Semigroup.{weight_at, function_count, sum_of, pairs}
use Rattle.curve_theory.specs.Normal.{curve_function, top_weight, lead_of, product_coefficient, combined}
use Rattle.curve_theory.specs.Separation.{separating_coefficient}

-- functions i, j and s, of those whose weights are at most top
pub record IsFunctionProduct (size : ℕ) (mul : ℕ → ℕ → ℕ) (a b : ℕ) (ts : List Term) (top i j s : ℕ) : Type 0 where
  pub lead_symbol : lead_of size mul a b ts (weight_at a b top i) (weight_at a b top j) < size
  pub lead_not_zero : lead_of size mul a b ts (weight_at a b top i) (weight_at a b top j) ≢ 0
  pub symbols : (w : ℕ) → product_coefficient size mul a b ts (weight_at a b top i) (weight_at a b top j) w < size
  pub product : (x y : ℕ) → IsOnCurve size mul ts x y →
      mul (curve_function mul a b top i x y) (curve_function mul a b top j x y)
      ≡ bit_xor (mul (lead_of size mul a b ts (weight_at a b top i) (weight_at a b top j)) (curve_function mul a b top s x y))
      (xor_sum s (λ k. mul (product_coefficient size mul a b ts (weight_at a b top i) (weight_at a b top j) (weight_at a b top k)) (curve_function mul a b top k x y)))

-- the functions are those whose weights are at most the top weight
pub record IsCurveSeparation (size : ℕ) (mul : ℕ → ℕ → ℕ) (a b n : ℕ) (xs ys : ℕ → ℕ) (t : ℕ) : Type 0 where
  pub symbols : (w : ℕ) → separating_coefficient size mul a b n xs ys t w < size
  pub values : (s : ℕ) → s < n →
      combined mul a b (top_weight size a b) (λ k. separating_coefficient size mul a b n xs ys t (weight_at a b (top_weight size a b) k)) (xs s) (ys s) ≡ unit t s

-- whether a sum is s
abbrev pub answers : Option ℕ → ℕ → Bool
answers None s = false
answers (Some m) s = eqb m s

pub record HasOrderedFunctions (size : ℕ) (mul : ℕ → ℕ → ℕ) (a b : ℕ) (ts : List Term) (top : ℕ) : Type 0 where
  pub labels_rise : (i j : ℕ) → i < j → j < function_count a b top → weight_at a b top i < weight_at a b top j
  pub sum_within : (i j s : ℕ) → i < function_count a b top → j < function_count a b top → sum_of a b top i j ≡ Some s → s < function_count a b top
  pub sum_commutes : (i j : ℕ) → sum_of a b top i j ≡ sum_of a b top j i
  pub sum_smaller : (i j i' j' s : ℕ) → i < function_count a b top → j < function_count a b top → sum_of a b top i j ≡ Some s → i' ≤ i → j' ≤ j → i' + j' < i + j →
      (s' : ℕ) × (sum_of a b top i' j' ≡ Some s') × (s' < s)
  pub sum_zero : (i : ℕ) → i < function_count a b top → sum_of a b top 0 i ≡ Some i
  -- the pairs of functions with a sum are as many as the pairs of members of the semigroup with the sum of the weights
  pub pairs_by_weight : (s : ℕ) → s < function_count a b top → count_pairs (function_count a b top) (λ i j. answers (sum_of a b top i j) s) ≡ pairs a b (weight_at a b top s)
  pub products : (i j s : ℕ) → i < function_count a b top → j < function_count a b top → sum_of a b top i j ≡ Some s → IsFunctionProduct size mul a b ts top i j s
  pub symbols : (i x y : ℕ) → curve_function mul a b top i x y < size

pub record HasSeparatingFunctions (size : ℕ) (mul : ℕ → ℕ → ℕ) (a b : ℕ) (ts : List Term) : Type 0 where
  pub separation : (n : ℕ) (xs ys : ℕ → ℕ) → ArePoints size mul ts n xs ys → (t : ℕ) → t < n → IsCurveSeparation size mul a b n xs ys t

pub record OrderedFunctionsLaw : Type 0 where
  pub ordered : (size : ℕ) (mul : ℕ → ℕ → ℕ) (a b : ℕ) (ts : List Term) (top : ℕ) → IsField size mul → IsEquation size a b ts → HasOrderedFunctions size mul a b ts top
  pub separating : (size : ℕ) (mul : ℕ → ℕ → ℕ) (a b : ℕ) (ts : List Term) → IsField size mul → IsEquation size a b ts → HasSeparatingFunctions size mul a b ts
