-- basis_with    the basis with these tables, which are kept flat, row by row
-- IsStored      the tables have n rows of n, and the basis with them is sound
use Rattle.std.specs.Prelude.{◌≡◌, ℕ, ◌*◌, List, length}
use Rattle.linear_theory.specs.Tables.{rows_of}
use Rattle.order_theory.specs.Basis.{Basis, IsSoundBasis}

abbrev pub basis_with : (bits modulus n count : ℕ) (ranks labels vectors duals counts sums leads : List ℕ) → Basis
basis_with bits modulus n count ranks labels vectors duals counts sums leads = record {
  bits = bits;
  modulus = modulus;
  n = n;
  count = count;
  ranks = ranks;
  labels = labels;
  vectors = rows_of n n vectors;
  duals = rows_of n n duals;
  pair_counts = counts;
  sums = rows_of n n sums;
  leads = rows_of n n leads;
}

pub record IsStored (bits modulus n count : ℕ) (ranks labels vectors duals counts sums leads : List ℕ) : Type 0 where
  pub n_vectors : length vectors ≡ n * n
  pub n_duals : length duals ≡ n * n
  pub n_sums : length sums ≡ n * n
  pub n_leads : length leads ≡ n * n
  pub sound : IsSoundBasis (basis_with bits modulus n count ranks labels vectors duals counts sums leads)
