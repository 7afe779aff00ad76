-- What the shape of a sound basis gives: all that is read of it is a symbol, and ranks tell the order of the members
use Rattle.std.proofs.Common.{◌≡◌, ◌≢◌, ◌⊎◌, ℕ, zero, suc, ◌^◌, ◌<◌, ◌≤◌, ◌+◌, List, [], length, get_or, sym, ◌∙◌, ap, subst, inl, inr, arith}
use Rattle.std.specs.List.{All}
use Rattle.std.proofs.lemmas.Bool.{cases_eq, cases_lt}
use Rattle.std.proofs.lemmas.List.{get_or_past}
use Rattle.std.proofs.lemmas.Nat.{pow_pos}
use Rattle.field_theory.proofs.Sums.{eq_or_below}
use Rattle.order_theory.specs.Basis.{Basis, IsWord, IsSound, vector, dual, lead, rank_at, sum_at}

pub word_below : {bits n : ℕ} {xs : List ℕ} → IsWord bits n xs → (p : ℕ) → get_or xs p 0 < 2 ^ bits
word_below {bits} {n} {xs} h p = elim (cases_lt p (length xs)) [
  | inl l ↦ h.symbols p 0 l
  | inr m ↦ subst (λ (x : ℕ). x < 2 ^ bits) (sym (get_or_past xs p 0 m)) (pow_pos bits)
]

pub row_below : {bits n : ℕ} (rows : List (List ℕ)) → All (IsWord bits n) rows → (i p : ℕ) → get_or (get_or rows i []) p 0 < 2 ^ bits
row_below {bits} rows h i p = elim (cases_lt i (length rows)) [
  | inl l ↦ word_below (h i [] l) p
  | inr m ↦ subst (λ (xs : List ℕ). get_or xs p 0 < 2 ^ bits) (sym (get_or_past rows i [] m)) (pow_pos bits)
]

-- a number is a value of f below n, or none of them
pub cases_value : (n : ℕ) (f : ℕ → ℕ) (s : ℕ) → ((k : ℕ) × (k < n) × (s ≡ f k)) ⊎ ((k : ℕ) → k < n → s ≢ f k)
cases_value zero f s = inr (λ k l. absurd (omega arith))
cases_value (suc n) f s = elim (cases_value n f s) [
  | inl w ↦ inl (w.0, (let l : w.0 < n = w.1 in omega arith), w.2)
  | inr d ↦ elim (cases_eq s (f n)) [
    | inl e ↦ inl (n, omega arith, e)
    | inr ne ↦ inr (λ k l. elim (eq_or_below k n l) [ inl e ↦ (λ u. ne (u ∙ ap f e)) | inr m ↦ d k m ])
  ]
]

module _ (mul : ℕ → ℕ → ℕ) (b : Basis) (h : IsSound mul b) where
  pub vector_below : (i p : ℕ) → vector b i p < 2 ^ b.bits
  vector_below i p = row_below b.vectors h.shape.vector_words i p

  pub dual_below : (i p : ℕ) → dual b i p < 2 ^ b.bits
  dual_below i p = row_below b.duals h.shape.dual_words i p

  pub lead_below : (i j : ℕ) → lead b i j < 2 ^ b.bits
  lead_below i j = row_below b.leads h.shape.lead_words i j

  -- a smaller rank is that of an earlier member
  pub earlier : (m k : ℕ) → m < b.n → k < b.n → rank_at b m < rank_at b k → m < k
  earlier m k lm lk l = elim (cases_lt m k) [
    | inl u ↦ u
    | inr u ↦ elim (cases_eq k m) [
      | inl e ↦ let f : rank_at b k ≡ rank_at b m = ap (λ (q : ℕ). rank_at b q) e in absurd (omega arith)
      | inr d ↦ let f : rank_at b k < rank_at b m = h.shape.ranks_rise k m (omega arith) lm in absurd (omega arith)
    ]
  ]

  -- a smaller pair of a pair whose sum is member k has a smaller sum
  pub smaller_sum : (i j k q p : ℕ) → i < b.n → j < b.n → k < b.n → sum_at b i j ≡ rank_at b k → q ≤ i → p ≤ j → (q ≡ i → p ≡ j → ⊥) → sum_at b q p < rank_at b k
  smaller_sum i j k q p li lj lk e lq lp d =
      let few : rank_at b k < b.count = h.shape.ranks_below k lk in
      let strict : q + p < i + j = smaller_total i j q p lq lp d in
      let s : sum_at b q p < sum_at b i j = h.sums_order.rise.rises i j q p li lj lq lp strict (omega arith) in
      omega arith
    where
      smaller_total : (i j q p : ℕ) → q ≤ i → p ≤ j → (q ≡ i → p ≡ j → ⊥) → q + p < i + j
      smaller_total i j q p lq lp d = elim (cases_eq q i) [
        | inl e ↦ elim (cases_eq p j) [ inl f ↦ absurd (d e f) | inr ne ↦ omega arith ]
        | inr ne ↦ omega arith
      ]
