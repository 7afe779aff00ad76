-- Normal forms modulo a C_ab equation, as lists of terms whose exponents of y are below a.
--
-- function_value        the function of weight w, at a point
-- weight_coefficient    the sum of the c of the terms of weight w
-- inverse_of            the inverse of an element
-- others                the terms of an equation other than y^a
-- times_monomial        a list of terms times c·x^i·y^j
-- relation              what y^a is on the curve
-- times_y               y times a normal form
-- normal_form           the normal form of x^i·y^j
-- product_coefficient   the coefficient of a function in the product of two functions
-- lead_of               the coefficient of the function of the sum of the weights in it
-- curve_function        function k of a curve, at a point
-- top_weight            the greatest weight of a function over a field of some size
-- combined              a combination of the functions, at a point
use Rattle.std.specs.Prelude.{ℕ, zero, suc, ◌+◌, ◌-◌, ◌*◌, List, [], ◌∷◌, ◌++◌, map, filter, bit_xor, not, cond, eqb, ltb, ◌&&◌}
use Rattle.curve_theory.specs.Semigroup.{first_below, x_exponent, y_exponent, weight_at, function_count}
use Rattle.field_theory.specs.Sums.{xor_sum}
use Rattle.curve_theory.specs.Curve.{Term, monomial, coefficient}

-- the function of weight w, at a point
abbrev pub function_value : (mul : ℕ → ℕ → ℕ) (a b w x y : ℕ) → ℕ
function_value mul a b w x y = monomial mul (x_exponent a b w) (y_exponent a b w) x y

-- the sum of the c of the terms of weight w
abbrev pub weight_coefficient : (a b : ℕ) → List Term → ℕ → ℕ
weight_coefficient a b [] w = 0
weight_coefficient a b (t ∷ ts) w = bit_xor (cond (eqb (a * t.i + b * t.j) w) t.c 0) (weight_coefficient a b ts w)

-- the y with x·y = 1
unfoldable pub inverse_of : (size : ℕ) (mul : ℕ → ℕ → ℕ) → ℕ → ℕ
inverse_of size mul x = first_below size (λ y. eqb (mul x y) 1)

-- the terms other than y^a
abbrev pub others : ℕ → List Term → List Term
others a ts = filter (λ t. not (eqb t.i 0 && eqb t.j a)) ts

abbrev pub times_monomial : (mul : ℕ → ℕ → ℕ) (i j c : ℕ) → List Term → List Term
times_monomial mul i j c ts = map (λ t. record { i = i + t.i; j = j + t.j; c = mul c t.c }) ts

-- what y^a is on the curve
unfoldable pub relation : (size : ℕ) (mul : ℕ → ℕ → ℕ) (a : ℕ) → List Term → List Term
relation size mul a ts = times_monomial mul 0 0 (inverse_of size mul (coefficient ts 0 a)) (others a ts)

-- y times a normal form, where r is the relation
abbrev pub times_y : (mul : ℕ → ℕ → ℕ) (a : ℕ) → List Term → List Term → List Term
times_y mul a r [] = []
times_y mul a r (t ∷ ts) =
    cond (ltb (suc t.j) a) (record { i = t.i; j = suc t.j; c = t.c } ∷ []) (times_monomial mul t.i 0 t.c r) ++ times_y mul a r ts

-- the normal form of x^i·y^j
abbrev pub normal_form : (mul : ℕ → ℕ → ℕ) (a : ℕ) → List Term → ℕ → ℕ → List Term
normal_form mul a r i zero = record { i = i; j = 0; c = 1 } ∷ []
normal_form mul a r i (suc j) = times_y mul a r (normal_form mul a r i j)

-- the coefficient of the function of weight w in the product of the functions of the weights u and v
unfoldable pub product_coefficient : (size : ℕ) (mul : ℕ → ℕ → ℕ) (a b : ℕ) → List Term → (u v w : ℕ) → ℕ
product_coefficient size mul a b ts u v w =
    weight_coefficient a b
    (normal_form mul a (relation size mul a ts) (x_exponent a b u + x_exponent a b v) (y_exponent a b u + y_exponent a b v)) w

-- the coefficient of the function of the sum of the weights
unfoldable pub lead_of : (size : ℕ) (mul : ℕ → ℕ → ℕ) (a b : ℕ) → List Term → (u v : ℕ) → ℕ
lead_of size mul a b ts u v =
    cond (ltb (y_exponent a b u + y_exponent a b v) a) 1 (mul (coefficient ts b 0) (inverse_of size mul (coefficient ts 0 a)))

-- function k of the curve, at a point
abbrev pub curve_function : (mul : ℕ → ℕ → ℕ) (a b top k x y : ℕ) → ℕ
curve_function mul a b top k x y = function_value mul a b (weight_at a b top k) x y

-- the greatest weight of a function over a field of this size
abbrev pub top_weight : (size a b : ℕ) → ℕ
top_weight size a b = a * (size - 1) + b * (a - 1)

-- the combination of the functions with these factors, at a point
abbrev pub combined : (mul : ℕ → ℕ → ℕ) (a b top : ℕ) → (ℕ → ℕ) → ℕ → ℕ → ℕ
combined mul a b top factors x y = xor_sum (function_count a b top) (λ k. mul (factors k) (curve_function mul a b top k x y))
