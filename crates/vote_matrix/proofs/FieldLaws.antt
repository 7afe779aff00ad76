-- The product of gf_theory makes a field of linear_theory
use Rattle.std.proofs.Common.{ℕ, ◌≤◌, ◌^◌, refl, arith}
use Rattle.std.proofs.lemmas.Nat.{pow_below}
use Rattle.gf_theory.specs.Field.{gf_mul, IsModulus}
use Rattle.gf_theory.proofs.Product.{gf_mul-below, gf_mul_comm, gf_mul_assoc, gf_mul-xor_right, gf_mul-one_left}
use Rattle.gf_theory.proofs.Inverse.{gf_inverse}
use Rattle.field_theory.specs.Field.{IsField}

pub gf_is_field : (m p : ℕ) → IsModulus m p → IsField (2 ^ m) (gf_mul m p)
gf_is_field m p h = record {
  bits = m;
  size_is = refl;
  one_below = let l : 2 ≤ m = h.at_least_two in pow_below 0 m (omega arith);
  mul_below = gf_mul-below m p;
  mul_comm = gf_mul_comm m p;
  mul_assoc = gf_mul_assoc m p;
  mul_xor = gf_mul-xor_right m p;
  one_mul = gf_mul-one_left m p;
  inverse = λ x l d. gf_inverse m p x h.irreducible (omega arith) l;
}
