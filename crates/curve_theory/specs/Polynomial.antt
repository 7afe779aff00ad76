-- Polynomials in x and y, as functions from the exponents of x and y to coefficients, modulo an equation.
--
-- IsPolynomial         finitely many coefficients are not 0, and all are elements of the field
-- one                  one term, as a polynomial
-- shift_x, shift_y     x and y times a polynomial
-- times_terms          a polynomial times a list of terms
-- IsSameModulo         two polynomials differ by a multiple of the equation
-- by_weights           the combination of the normal monomials with coefficients by weight
-- IsNormalForm         such a combination is the same as a polynomial modulo the equation
-- HasOneNormalForm     there is exactly one
-- PolynomialsHaveOneNormalForm    the theorem: over every field, modulo each C_ab equation, each polynomial has one
use Rattle.std.specs.Prelude.{◌≡◌, ℕ, zero, suc, ◌+◌, ◌-◌, ◌*◌, ◌<◌, ◌≤◌, false, List, [], ◌∷◌, bit_xor, cond, eqb, ltb, leb, ◌&&◌}
use Rattle.field_theory.specs.Field.{IsField}
use Rattle.curve_theory.specs.Curve.{Term, IsEquation}
use Rattle.curve_theory.specs.Semigroup.{is_member}

pub record IsPolynomial (size : ℕ) (p : ℕ → ℕ → ℕ) : Type 0 where
  pub symbol : (i j : ℕ) → p i j < size
  pub bound : ℕ
  pub x_beyond : (i j : ℕ) → bound ≤ i → p i j ≡ 0
  pub y_beyond : (i j : ℕ) → bound ≤ j → p i j ≡ 0

-- one term
abbrev pub one : Term → ℕ → ℕ → ℕ
one t i j = cond (eqb t.i i && eqb t.j j) t.c 0

-- y times p
abbrev pub shift_y : (ℕ → ℕ → ℕ) → ℕ → ℕ → ℕ
shift_y p i zero = 0
shift_y p i (suc j) = p i j

-- x times p
abbrev pub shift_x : (ℕ → ℕ → ℕ) → ℕ → ℕ → ℕ
shift_x p zero j = 0
shift_x p (suc i) j = p i j

-- the coefficients of p times the sum of the terms
abbrev pub times_terms : (mul : ℕ → ℕ → ℕ) → List Term → (ℕ → ℕ → ℕ) → ℕ → ℕ → ℕ
times_terms mul [] p i j = 0
times_terms mul (t ∷ ts) p i j =
    bit_xor (cond (leb t.i i && leb t.j j) (mul t.c (p (i - t.i) (j - t.j))) 0) (times_terms mul ts p i j)

-- the difference of p and q is a multiple of the sum of the terms
pub record IsSameModulo (size : ℕ) (mul : ℕ → ℕ → ℕ) (ts : List Term) (p q : ℕ → ℕ → ℕ) : Type 0 where
  pub multiple : ℕ → ℕ → ℕ
  pub is_polynomial : IsPolynomial size multiple
  pub difference : (i j : ℕ) → bit_xor (p i j) (q i j) ≡ times_terms mul ts multiple i j

-- the combination of the normal monomials that has, at each, the coefficient that c has at its weight
abbrev pub by_weights : (a b : ℕ) → (ℕ → ℕ) → ℕ → ℕ → ℕ
by_weights a b c i j = cond (ltb j a) (c (a * i + b * j)) 0

-- c, by weights, is the normal form of p
pub record IsNormalForm (size : ℕ) (mul : ℕ → ℕ → ℕ) (a b : ℕ) (ts : List Term) (p : ℕ → ℕ → ℕ) (c : ℕ → ℕ) : Type 0 where
  pub symbol : (w : ℕ) → c w < size
  pub members : (w : ℕ) → is_member a b w ≡ false → c w ≡ 0
  pub bound : ℕ
  pub beyond : (w : ℕ) → bound < w → c w ≡ 0
  pub same : IsSameModulo size mul ts p (by_weights a b c)

-- over every field, each polynomial has one normal form modulo each C_ab equation
pub record HasOneNormalForm (size : ℕ) (mul : ℕ → ℕ → ℕ) (a b : ℕ) (ts : List Term) (p : ℕ → ℕ → ℕ) : Type 0 where
  pub factors : ℕ → ℕ
  pub is_normal_form : IsNormalForm size mul a b ts p factors
  pub only : (c : ℕ → ℕ) → IsNormalForm size mul a b ts p c → (w : ℕ) → c w ≡ factors w

abbrev pub PolynomialsHaveOneNormalForm : Type 0
PolynomialsHaveOneNormalForm =
    (size : ℕ) (mul : ℕ → ℕ → ℕ) → IsField size mul → (a b : ℕ) (ts : List Term) → IsEquation size a b ts →
    (p : ℕ → ℕ → ℕ) → IsPolynomial size p → HasOneNormalForm size mul a b ts p
