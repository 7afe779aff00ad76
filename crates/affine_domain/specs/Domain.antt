-- affine_functions    the functions of a space: its monomials, by rising degree, with their indices as labels
-- affine_domain       the domain of a space: its functions, with the coefficients that the laws of an order domain name
use Rattle.std.specs.Prelude.{ℕ, ◌^◌}
use Rattle.gf_theory.specs.Field.{gf_mul}
use Rattle.theory_affine.specs.Monomials.{monomial_at, monomial_count}
use Rattle.theory_affine.specs.Order.{sum_of}
use Rattle.theory_affine.specs.Separation.{monomial_value, separating_coefficient}
use Rattle.order_domain.specs.Points.{point_at}
use Rattle.order_domain.specs.Domain.{Domain}
use Rattle.order_domain.specs.Functions.{Functions}
use Rattle.affine_domain.specs.Points.{is_on_space}

abbrev pub affine_functions : (bits vars : ℕ) → Functions
affine_functions bits vars = record {
  bits = bits;
  count = monomial_count (2 ^ bits) vars;
  label = λ i. i;
  sum = sum_of (2 ^ bits) vars;
  eval = λ modulus i p. monomial_value (gf_mul bits modulus) (monomial_at vars i) p.x p.y p.z;
  on = λ modulus p. is_on_space bits vars p;
}

-- a product of two monomials is one, so that its lead is 1 and its other coefficients are 0
abbrev pub affine_domain : (bits vars : ℕ) → Domain
affine_domain bits vars = record {
  bits = bits;
  count = monomial_count (2 ^ bits) vars;
  label = λ i. i;
  sum = sum_of (2 ^ bits) vars;
  eval = λ modulus i p. monomial_value (gf_mul bits modulus) (monomial_at vars i) p.x p.y p.z;
  lead = λ modulus i j. 1;
  product_coefficient = λ modulus i j k. 0;
  on = λ modulus p. is_on_space bits vars p;
  separating_coefficient = λ modulus points t k.
      separating_coefficient (2 ^ bits) (gf_mul bits modulus) vars
      (point_at points t).x (point_at points t).y (point_at points t).z k;
}
