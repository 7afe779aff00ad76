-- IsRelationOf       the terms are what y^a is on a curve, beside the weights of x and y
-- HasPowerOfY        numbers by weight are the coefficients of the normal form of y^j on a curve
use Rattle.std.specs.Prelude.{ℕ, ◌≡◌, ◌+◌, ◌*◌, ◌^◌, List, length, slice_index}
use Rattle.gf_theory.specs.Field.{gf_mul}
use Rattle.curve_theory.specs.declared.Term.{Term}
use Rattle.curve_theory.specs.Normal.{relation}
use Rattle.curve_theory.specs.Polynomial.{IsNormalForm}
use Rattle.cab_curve.specs.Equation.{Equation}
use Rattle.cab_curve.specs.NormalForms.{power_product}

pub record IsRelationOf (e : Equation) (modulus a b : ℕ) (terms : List Term) : Type 0 where
  pub a_is : a ≡ e.a
  pub b_is : b ≡ e.b
  pub terms_are : terms ≡ relation (2 ^ e.bits) (gf_mul e.bits modulus) e.a e.terms

pub record HasPowerOfY (e : Equation) (modulus j : ℕ) (coefficients : List ℕ) : Type 0 where
  pub weights : length coefficients ≡ e.b * j + 1
  pub is_form : IsNormalForm (2 ^ e.bits) (gf_mul e.bits modulus) e.a e.b e.terms (power_product 0 j) (slice_index coefficients)
