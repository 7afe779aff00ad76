-- line             the domain of a test: the functions 1, x, x² and x³ on the four points of a line over GF(4)
use Rattle.std.specs.Prelude.{ℕ, ◌+◌, ◌-◌, ◌&&◌, bit_xor, cond, eqb, ltb, Some, None}
use Rattle.gf_theory.specs.Field.{gf_pow}
use Rattle.order_domain.specs.Points.{point_at}
use Rattle.order_domain.specs.Domain.{Domain}

-- coefficient k of 1 + (x + u)³, which is 1 at u and 0 elsewhere
abbrev pub one_at : (modulus u k : ℕ) → ℕ
one_at modulus u k = bit_xor (cond (eqb k 0) 1 0) (gf_pow 2 modulus u (3 - k))

abbrev pub line : Domain
line = record {
  bits = 2;
  count = 4;
  label = λ i. i;
  sum = λ i j. cond (ltb (i + j) 4) (Some (i + j)) None;
  eval = λ modulus i p. gf_pow 2 modulus p.x i;
  lead = λ modulus i j. 1;
  product_coefficient = λ modulus i j k. 0;
  on = λ modulus p. ltb p.x 4 && eqb p.y 0 && eqb p.z 0;
  separating_coefficient = λ modulus points t. one_at modulus (point_at points t).x;
}
