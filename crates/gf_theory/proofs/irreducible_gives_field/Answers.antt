use Rattle.gf_theory.proofs.Product.{gf_mul-below, gf_mul_comm, gf_mul_assoc, gf_mul-xor_right, gf_mul-zero_left, gf_mul-one_left}
use Rattle.gf_theory.proofs.Inverse.{gf_inverse, gf_mul_pos, inverse_unique}
use Rattle.gf_theory.proofs.Fields.{field_of_modulus}
use Rattle.gf_theory.proofs.irreducible_gives_field.Goals as goal

pub returns-clause-laws : goal.returns-clause-laws
returns-clause-laws c m p l h = record {
  one_is_element = (field_of_modulus m p l h).one_below;
  closed = gf_mul-below m p;
  commutative = gf_mul_comm m p;
  associative = gf_mul_assoc m p;
  distributive = gf_mul-xor_right m p;
  zero_left = gf_mul-zero_left m p;
  one_left = gf_mul-one_left m p;
  inverse = λ x. gf_inverse m p x h;
  inverse_only = λ x y z. inverse_unique m p x y z h;
  nonzero = λ x y. gf_mul_pos m p x y h;
}

pub returns-clause-is_field : goal.returns-clause-is_field
returns-clause-is_field c = field_of_modulus
