-- A matrix of which nothing is settled
use Rattle.std.proofs.lemmas.List.{get_or-replicate, length-replicate}
use Rattle.std.proofs.lemmas.List.Elements.{All-replicate}
use Rattle.std.proofs.lemmas.Nat.{pow_pos}
use Rattle.std.proofs.Common.{◌≡◌, ℕ, ◌*◌, ◌<◌, ◌≤◌, ◌^◌, List, length, sym, ◌∙◌, ap, subst, arith}
use Rattle.std.specs.Prelude.{replicate, slice_index, All}
use Rattle.gf_theory.specs.Field.{gf_mul, IsModulus}
use Rattle.growing_theory.specs.Reduction.{HasPivots}
use Rattle.growing_theory.proofs.Rows.{reduction_nothing}
use Rattle.vote_matrix.specs.Elimination.{Elimination, IsEmpty, factor_at, reduced_at}
use Rattle.vote_matrix.specs.Stored.{IsState}

all_same : (n x i : ℕ) (xs : List ℕ) → xs ≡ replicate n x → i < n → slice_index xs i ≡ x
all_same n x i xs e l = ap (λ (ys : List ℕ). slice_index ys i) e ∙ get_or-replicate n i x 0 l

module _ (v : Elimination) (numbers inverse : List ℕ) (is_modulus : IsModulus v.bits v.modulus) (some : 1 ≤ v.n) (small : v.n ≤ 1024) (most_small : v.most ≤ 1024) (none : v.count ≡ 0) (wide : v.n ≤ v.stride) (stride_small : v.stride ≤ 2048)
    (known : v.known ≡ replicate v.n 0) (pivots : v.pivots ≡ replicate v.n v.n) (number : numbers ≡ replicate v.n v.n) (spans : v.spans ≡ replicate v.n 0) where
  pub state_empty : length v.rows ≡ v.most → length inverse ≡ v.most → length v.reduced ≡ v.most * v.stride → length v.factors ≡ v.n * v.most
      → All (λ x. x < 2 ^ v.bits) inverse → All (λ x. x < 2 ^ v.bits) v.reduced → All (λ x. x < 2 ^ v.bits) v.factors → IsState v numbers inverse
  state_empty rows_fit inverse_fit reduced_fit factors_fit inverse_below reduced_below factors_below = record {
    is_modulus = is_modulus;
    some = some;
    small = small;
    most_small = most_small;
    few = omega arith;
    wide = wide;
    stride_small = stride_small;
    known_fit = ap (λ (xs : List ℕ). length xs) known ∙ length-replicate v.n 0;
    pivots_fit = ap (λ (xs : List ℕ). length xs) pivots ∙ length-replicate v.n v.n;
    numbers_fit = ap (λ (xs : List ℕ). length xs) number ∙ length-replicate v.n v.n;
    rows_fit = rows_fit;
    inverse_fit = inverse_fit;
    spans_fit = ap (λ (xs : List ℕ). length xs) spans ∙ length-replicate v.n 0;
    reduced_fit = reduced_fit;
    factors_fit = factors_fit;
    inverse_below = inverse_below;
    reduced_below = reduced_below;
    factors_below = factors_below;
    has_pivots =
        subst (λ (k : ℕ). HasPivots (gf_mul v.bits v.modulus) v.n k (factor_at v) (reduced_at v) (slice_index v.spans) (slice_index v.known) (slice_index v.pivots) (slice_index numbers) (slice_index v.rows) (slice_index inverse)) (sym none)
        (reduction_nothing (gf_mul v.bits v.modulus) v.n (factor_at v) (reduced_at v) (slice_index v.spans) (slice_index v.known) (slice_index v.pivots) (slice_index numbers) (slice_index v.rows) (slice_index inverse)
        (λ i l. all_same v.n 0 i v.spans spans l) (λ i l. all_same v.n 0 i v.known known l) (λ i l. all_same v.n v.n i v.pivots pivots l) (λ j l. all_same v.n v.n j numbers number l));
  }

pub is_empty : (bits modulus n most : ℕ) (v : Elimination) → v.bits ≡ bits → v.modulus ≡ modulus → v.n ≡ n → v.most ≡ most → v.known ≡ replicate v.n 0 → v.count ≡ 0 → IsEmpty bits modulus n most v
is_empty bits modulus n most v eb em en et ek ec = record {
  bits_are = eb;
  modulus_is = em;
  n_is = en;
  most_is = et;
  known = ek ∙ ap (λ (m : ℕ). replicate m 0) en;
  count = ec;
  of_all = λ S symbols. record {
    symbols = subst (λ (b : ℕ). (i j : ℕ) → S i j < 2 ^ b) (sym eb) symbols;
    inside = λ t l. absurd (omega arith);
    pivot_rows = λ t j l u. absurd (omega arith);
    before = λ i j l u w. let e : slice_index v.known i ≡ 0 = all_same v.n 0 i v.known ek l in absurd (omega arith);
  };
}

pub zeros_fit : (n : ℕ) (xs : List ℕ) → xs ≡ replicate n 0 → length xs ≡ n
zeros_fit n xs e = ap (λ (ys : List ℕ). length ys) e ∙ length-replicate n 0

pub zeros_below : (bits n : ℕ) (xs : List ℕ) → xs ≡ replicate n 0 → All (λ x. x < 2 ^ bits) xs
zeros_below bits n xs e = subst (λ (ys : List ℕ). All (λ x. x < 2 ^ bits) ys) (sym e) (All-replicate (λ x. x < 2 ^ bits) n 0 (pow_pos bits))
