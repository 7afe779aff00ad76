-- x_at             the x of the point at a place of a list
-- y_at             its y
-- top_of           the greatest weight of a function of a curve
-- cab_functions    the functions of a curve, by rising weight up to the top weight, with their weights as labels
-- cab_domain       the domain of a curve: its functions, with the coefficients that the laws of an order domain name
use Rattle.std.specs.Prelude.{ℕ, ◌^◌, List, length}
use Rattle.gf_theory.specs.Field.{gf_mul}
use Rattle.curve_theory.specs.Semigroup.{function_count, weight_at, sum_of}
use Rattle.curve_theory.specs.Normal.{curve_function, top_weight, lead_of, product_coefficient}
use Rattle.curve_theory.specs.Separation.{separating_coefficient}
use Rattle.order_domain.specs.declared.Point.{Point}
use Rattle.order_domain.specs.Points.{point_at}
use Rattle.order_domain.specs.Domain.{Domain}
use Rattle.order_domain.specs.Functions.{Functions}
use Rattle.cab_curve.specs.Equation.{Equation}
use Rattle.cab_curve.specs.Points.{is_on_curve}

abbrev pub x_at : List Point → ℕ → ℕ
x_at points k = (point_at points k).x

abbrev pub y_at : List Point → ℕ → ℕ
y_at points k = (point_at points k).y

abbrev pub top_of : Equation → ℕ
top_of e = top_weight (2 ^ e.bits) e.a e.b

abbrev pub cab_functions : Equation → Functions
cab_functions e = record {
  bits = e.bits;
  count = function_count e.a e.b (top_of e);
  label = weight_at e.a e.b (top_of e);
  sum = sum_of e.a e.b (top_of e);
  eval = λ modulus i p. curve_function (gf_mul e.bits modulus) e.a e.b (top_of e) i p.x p.y;
  on = λ modulus p. is_on_curve e.bits modulus e.terms p;
}

abbrev pub cab_domain : Equation → Domain
cab_domain e = record {
  bits = e.bits;
  count = function_count e.a e.b (top_of e);
  label = weight_at e.a e.b (top_of e);
  sum = sum_of e.a e.b (top_of e);
  eval = λ modulus i p. curve_function (gf_mul e.bits modulus) e.a e.b (top_of e) i p.x p.y;
  lead = λ modulus i j. lead_of (2 ^ e.bits) (gf_mul e.bits modulus) e.a e.b e.terms (weight_at e.a e.b (top_of e) i) (weight_at e.a e.b (top_of e) j);
  product_coefficient = λ modulus i j k.
      product_coefficient (2 ^ e.bits) (gf_mul e.bits modulus) e.a e.b e.terms
      (weight_at e.a e.b (top_of e) i) (weight_at e.a e.b (top_of e) j) (weight_at e.a e.b (top_of e) k);
  on = λ modulus p. is_on_curve e.bits modulus e.terms p;
  separating_coefficient = λ modulus points t k.
      separating_coefficient (2 ^ e.bits) (gf_mul e.bits modulus) e.a e.b (length points) (x_at points) (y_at points) t (weight_at e.a e.b (top_of e) k);
}
