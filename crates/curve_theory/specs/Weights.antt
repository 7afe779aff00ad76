-- Normal forms by weights, computed step by step.
--
-- one_by_weights         the normal form of 1
-- times_x_by_weights     x times a normal form
-- y_times_monomial       y times x^i·y^j, for a j below a, as terms
-- y_times_function       y times the function of weight v, as terms
-- times_y_by_weights     y times a normal form
use Rattle.std.specs.Prelude.{ℕ, suc, ◌-◌, List, [], ◌∷◌, cond, eqb, leb}
use Rattle.field_theory.specs.Sums.{xor_sum}
use Rattle.curve_theory.specs.Semigroup.{x_exponent, y_exponent}
use Rattle.curve_theory.specs.Curve.{Term}
use Rattle.curve_theory.specs.Normal.{weight_coefficient, times_y}

-- 1, by weights
abbrev pub one_by_weights : ℕ → ℕ
one_by_weights w = cond (eqb w 0) 1 0

-- x times c
abbrev pub times_x_by_weights : (a : ℕ) → (ℕ → ℕ) → ℕ → ℕ
times_x_by_weights a c w = cond (leb a w) (c (w - a)) 0

-- r is the relation
abbrev pub y_times_monomial : (mul : ℕ → ℕ → ℕ) (a : ℕ) → List Term → (i j : ℕ) → List Term
y_times_monomial mul a r i j = times_y mul a r (record { i = i; j = j; c = 1 } ∷ [])

abbrev pub y_times_function : (mul : ℕ → ℕ → ℕ) (a b : ℕ) → List Term → ℕ → List Term
y_times_function mul a b r v = y_times_monomial mul a r (x_exponent a b v) (y_exponent a b v)

-- y times c, where c is 0 above n
abbrev pub times_y_by_weights : (mul : ℕ → ℕ → ℕ) (a b : ℕ) → List Term → (n : ℕ) → (ℕ → ℕ) → ℕ → ℕ
times_y_by_weights mul a b r n c w = xor_sum (suc n) (λ v. mul (c v) (weight_coefficient a b (y_times_function mul a b r v) w))
