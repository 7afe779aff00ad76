use Rattle.std.proofs.lemmas.Nat.{xor_comm, xor_lt}
use Rattle.std.specs.Int.Bits.{xor_assoc, xor_self, xor_zero_r}
use Rattle.std.proofs.Common.{◌∙◌}
use Rattle.gf_theory.proofs.Clmul.{clmul_comm, clmul_assoc, clmul-xor_right, clmul-zero_left, clmul-one_left}
use Rattle.gf_theory.proofs.Degree.{clmul_pos}
use Rattle.gf_theory.proofs.polynomials_are_a_ring.Goals as goal

pub returns-clause-sums : goal.returns-clause-sums
returns-clause-sums c = record {
  closed = xor_lt;
  commutative = xor_comm;
  associative = xor_assoc;
  zero_left = λ x. xor_comm 0 x ∙ xor_zero_r x;
  own_negative = xor_self;
}

pub returns-clause-products : goal.returns-clause-products
returns-clause-products c = record {
  commutative = clmul_comm;
  associative = clmul_assoc;
  distributive = clmul-xor_right;
  zero_left = clmul-zero_left;
  one_left = clmul-one_left;
  nonzero = clmul_pos;
}
