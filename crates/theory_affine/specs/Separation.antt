-- side                      how many values coordinate j of a point has: `size` for each variable of the space, and 1 for
--                           the others
-- monomial_value            the value of a monomial at (x, y, z)
-- times_root                x + c times a polynomial in one variable, given by its coefficients
-- others_product            the product of x + c over the c below n other than u
-- value                     the value at v of the polynomial with n coefficients
-- one_at                    the coefficients of the polynomial that is 1 at u and 0 at the other numbers below n
-- separating_coefficient    the coefficient of the monomial at an index in the product of three such, one for each
--                           coordinate
-- separating_value          the value of the combination of the monomials with those coefficients
-- IsAffineSeparation        that combination is 1 at (u, v, w) and 0 at the other points
-- SeparationLaw             the theorem: it is so over every field
use Rattle.std.specs.Prelude.{◌≡◌, ℕ, zero, suc, ◌<◌, ◌≤◌, bit_xor, cond, eqb, ltb}
use Rattle.field_theory.specs.Field.{IsField}
use Rattle.field_theory.specs.Sums.{xor_sum, unit}
use Rattle.curve_theory.specs.Curve.{power}
use Rattle.curve_theory.specs.Normal.{inverse_of}
use Rattle.theory_affine.specs.Monomials.{Monomial, monomial_at, monomial_count}

abbrev pub side : (size vars j : ℕ) → ℕ
side size vars j = cond (ltb j vars) size 1

abbrev pub monomial_value : (mul : ℕ → ℕ → ℕ) → Monomial → (x y z : ℕ) → ℕ
monomial_value mul m x y z = mul (mul (power mul x m.x) (power mul y m.y)) (power mul z m.z)

abbrev pub times_root : (mul : ℕ → ℕ → ℕ) (c : ℕ) → (ℕ → ℕ) → ℕ → ℕ
times_root mul c f zero = mul c (f 0)
times_root mul c f (suc k) = bit_xor (f k) (mul c (f (suc k)))

unfoldable pub others_product : (mul : ℕ → ℕ → ℕ) (u n : ℕ) → ℕ → ℕ
others_product mul u zero = unit 0
others_product mul u (suc n) = cond (eqb n u) (others_product mul u n) (times_root mul n (others_product mul u n))

abbrev pub value : (mul : ℕ → ℕ → ℕ) (n : ℕ) → (ℕ → ℕ) → ℕ → ℕ
value mul n f v = xor_sum n (λ k. mul (f k) (power mul v k))

unfoldable pub one_at : (size : ℕ) (mul : ℕ → ℕ → ℕ) (n u k : ℕ) → ℕ
one_at size mul n u k = mul (inverse_of size mul (value mul n (others_product mul u n) u)) (others_product mul u n k)

unfoldable pub separating_coefficient : (size : ℕ) (mul : ℕ → ℕ → ℕ) (vars u v w i : ℕ) → ℕ
separating_coefficient size mul vars u v w i =
    let m = monomial_at vars i in
    mul (mul (one_at size mul (side size vars 0) u m.x) (one_at size mul (side size vars 1) v m.y))
    (one_at size mul (side size vars 2) w m.z)

abbrev pub separating_value : (size : ℕ) (mul : ℕ → ℕ → ℕ) (vars u v w x y z : ℕ) → ℕ
separating_value size mul vars u v w x y z =
    xor_sum (monomial_count size vars)
    (λ i. mul (separating_coefficient size mul vars u v w i) (monomial_value mul (monomial_at vars i) x y z))

pub record IsAffineSeparation (size : ℕ) (mul : ℕ → ℕ → ℕ) (vars u v w : ℕ) : Type 0 where
  pub symbols : (i : ℕ) → separating_coefficient size mul vars u v w i < size
  pub here : separating_value size mul vars u v w u v w ≡ 1
  pub elsewhere : (x y z : ℕ) → x < side size vars 0 → y < side size vars 1 → z < side size vars 2 →
      (x ≡ u → y ≡ v → z ≡ w → ⊥) → separating_value size mul vars u v w x y z ≡ 0

abbrev pub SeparationLaw : Type 0
SeparationLaw =
    (size : ℕ) (mul : ℕ → ℕ → ℕ) → IsField size mul → (vars u v w : ℕ) → 1 ≤ vars → vars ≤ 3 →
    u < side size vars 0 → v < side size vars 1 → w < side size vars 2 → IsAffineSeparation size mul vars u v w
