-- elimination_of    what contracts see of the fields of a reduction
-- IsState           lists are those of an elimination
-- IsStored          so are the fields of a reduction
-- IsAllBut          all rows but one are eliminated, and that one is reduced in the first free place
-- mixed_at          the sum of the pivot rows, each times its factor; the first t are reduced, the others as they came
-- AreAbove          the factors that are not 0 are those of pivot rows above row i
-- IsOwn             a row has the pivot of this number
-- IsFree            a row has no pivot
use Rattle.std.specs.Prelude.{◌≡◌, ◌≢◌, ℕ, ◌+◌, ◌*◌, ◌<◌, ◌≤◌, ◌^◌, List, length, slice_index, All, IfSome, bit_xor, cond, ltb}
use Rattle.field_theory.specs.Sums.{xor_sum}
use Rattle.gf_theory.specs.Field.{gf_mul, IsModulus}
use Rattle.growing_theory.specs.Reduction.{HasPivots}
use Rattle.vote_matrix.specs.Slots.{slots}
use Rattle.vote_matrix.specs.Elimination.{Elimination, kept_at, reduced_at}
use Rattle.vote_matrix.specs.declared.reduction.Reduction.{Reduction}

abbrev pub elimination_of : Reduction → Elimination
elimination_of a = record {
  bits = a.bits;
  modulus = a.modulus;
  n = a.n;
  most = a.most;
  count = a.count;
  stride = a.stride;
  known = a.known.items;
  pivots = slots a.n a.pivot.items;
  rows = a.rows.items;
  spans = a.spans.items;
  reduced = a.reduced.items;
  factors = a.factors.items;
}

-- row i has the factor at place i * most + t for the reduced row of number t, which stands from place t * stride on
pub record IsState (v : Elimination) (numbers inverse : List ℕ) : Type 0 where
  pub is_modulus : IsModulus v.bits v.modulus
  pub some : 1 ≤ v.n
  pub small : v.n ≤ 1024
  pub most_small : v.most ≤ 1024
  pub few : v.count ≤ v.most
  pub wide : v.n ≤ v.stride
  pub stride_small : v.stride ≤ 2048
  pub known_fit : length v.known ≡ v.n
  pub pivots_fit : length v.pivots ≡ v.n
  pub numbers_fit : length numbers ≡ v.n
  pub rows_fit : length v.rows ≡ v.most
  pub inverse_fit : length inverse ≡ v.most
  pub spans_fit : length v.spans ≡ v.n
  pub reduced_fit : length v.reduced ≡ v.most * v.stride
  pub factors_fit : length v.factors ≡ v.n * v.most
  pub inverse_below : All (λ x. x < 2 ^ v.bits) inverse
  pub reduced_below : All (λ x. x < 2 ^ v.bits) v.reduced
  pub factors_below : All (λ x. x < 2 ^ v.bits) v.factors
  pub has_pivots : HasPivots (gf_mul v.bits v.modulus) v.n v.count (λ i t. slice_index v.factors (i * v.most + t)) (λ t j. slice_index v.reduced (t * v.stride + j))
      (slice_index v.spans) (slice_index v.known) (slice_index v.pivots) (slice_index numbers) (slice_index v.rows) (slice_index inverse)

pub record IsStored (a : Reduction) : Type 0 where
  pub state : IsState (elimination_of a) (slots a.n a.number.items) a.inverse.items
  pub pivots_low : All (λ o. IfSome o (λ x. x < a.n)) a.pivot.items
  pub numbers_low : All (λ o. IfSome o (λ x. x < a.n)) a.number.items

pub record IsAllBut (S : ℕ → ℕ → ℕ) (v : Elimination) (i : ℕ) : Type 0 where
  pub symbols : (p j : ℕ) → S p j < 2 ^ v.bits
  pub inside : (t : ℕ) → t < v.count → slice_index v.rows t < v.n
  pub pivot_rows : (t j : ℕ) → t < v.count → j < slice_index v.known (slice_index v.rows t)
      → reduced_at v t j ≡ bit_xor (S (slice_index v.rows t) j) (kept_at v (slice_index v.rows t) j)
  pub before : (p j : ℕ) → p < v.n → p ≢ i → j < slice_index v.known p → j < slice_index v.pivots p → S p j ≡ kept_at v p j
  pub line : (j : ℕ) → j < slice_index v.known i → reduced_at v v.count j ≡ bit_xor (S i j) (kept_at v i j)

pub record IsOwn (a : Reduction) (i own : ℕ) : Type 0 where
  pub has : slice_index (slots a.n a.pivot.items) i < a.n
  pub number_is : own ≡ slice_index (slots a.n a.number.items) (slice_index (slots a.n a.pivot.items) i)

abbrev pub IsFree : Reduction → ℕ → Type 0
IsFree a i = a.n ≤ slice_index (slots a.n a.pivot.items) i

abbrev pub mixed_at : Elimination → (ℕ → ℕ → ℕ) → (ℕ → ℕ) → ℕ → ℕ → ℕ
mixed_at v S out t j = xor_sum v.count (λ u. gf_mul v.bits v.modulus (out u) (cond (ltb u t) (reduced_at v u j) (S (slice_index v.rows u) j)))

abbrev pub AreAbove : Elimination → ℕ → (ℕ → ℕ) → Type 0
AreAbove v i out = (u : ℕ) → u < v.count → out u ≢ 0 → slice_index v.rows u < i
