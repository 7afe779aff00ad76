-- The functions of a curve are ordered, and separate its points
use Rattle.std.proofs.Common.{ℕ, List}
use Rattle.field_theory.specs.Field.{IsField}
use Rattle.curve_theory.specs.Curve.{Term, power, IsEquation}
use Rattle.curve_theory.specs.Semigroup.{weight_at, x_exponent, y_exponent}
use Rattle.curve_theory.specs.Functions.{HasOrderedFunctions, OrderedFunctionsLaw}
use Rattle.curve_theory.proofs.Places.{weight_at-lt, sum_of-some, sum_of_comm, IsSmallerSum, sum_of-smaller, sum_of-zero}
use Rattle.curve_theory.proofs.Laws.{product_by_index}
use Rattle.curve_theory.proofs.Pairs.{pairs-by_weight}
use Rattle.curve_theory.proofs.Separate.{separation}

pub ordered_functions : (size : ℕ) (mul : ℕ → ℕ → ℕ) (a b : ℕ) (ts : List Term) (top : ℕ) → IsField size mul → IsEquation size a b ts → HasOrderedFunctions size mul a b ts top
ordered_functions size mul a b ts top field curve = record {
  labels_rise = weight_at-lt a b top;
  sum_within = λ i j s l m h. (sum_of-some a b top i j s curve.a_above l m h).below;
  sum_commutes = sum_of_comm a b top;
  sum_smaller = λ i j k l s li lj h lk ll lt.
      let w : IsSmallerSum a b top k l s = sum_of-smaller a b top i j k l s curve.a_above li lj lk ll lt h in
      (w.index, w.answers, w.smaller);
  sum_zero = λ i l. sum_of-zero a b top i curve.a_above l;
  pairs_by_weight = λ s l. pairs-by_weight a b top curve.a_above s l;
  products = product_by_index size mul field a b ts curve top;
  symbols = λ i x y. field.mul_below (power mul x (x_exponent a b (weight_at a b top i))) (power mul y (y_exponent a b (weight_at a b top i)));
}

pub ordered_functions_law : OrderedFunctionsLaw
ordered_functions_law = record {
  ordered = ordered_functions;
  separating = λ size mul a b ts field curve. record { separation = separation size mul field a b ts curve };
}
