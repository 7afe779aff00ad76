-- The reduced row echelon form of a span is unique
use Rattle.std.proofs.lemmas.Bool.{cases_lt, cases_order, cases_Bool, eqb-true, eq-eqb, both_ways}
use Rattle.std.proofs.Common.{◌+◌, ◌-◌, subst, ◌≡◌, ◌≢◌, ℕ, zero, suc, ◌<◌, ◌≤◌, true, eqb, sym, ◌∙◌, ap, inl, inr, arith}
use Rattle.field_theory.specs.Field.{IsField}
use Rattle.field_theory.specs.Sums.{any_below, unit}
use Rattle.linear_theory.specs.Linear.{AreNew, rank, combine, IsCombination, SameSpan, IsReduced}
use Rattle.field_theory.proofs.Sums.{sum-same, sum-zero, zero-mul, mul-zero, one_mul-mul}
use Rattle.linear_theory.proofs.Steps.{rank_of_echelon}
use Rattle.linear_theory.proofs.Spans.{put-same, put-other, combination_zero, combination_row, combination_through, any_below-yes, any_below-from}
use Rattle.linear_theory.proofs.Duals.{sum_unit, unit_sum}

-- two rising lists of numbers with the same members
abbrev pub Rises : (ℕ → ℕ) → ℕ → Type 0
Rises p k = (t u : ℕ) → t < u → u < k → p t < p u

abbrev pub Covers : (ℕ → ℕ) → ℕ → (ℕ → ℕ) → ℕ → Type 0
Covers p k q m = (t : ℕ) → t < m → (s : ℕ) × (s < k) × (p s ≡ q t)

rising_low : (p q : ℕ → ℕ) (k m t s : ℕ) → Rises p k → Rises q m → t < k → t < m → ((u : ℕ) → u < t → p u ≡ q u) → s < k → p s ≡ q t → p t ≤ q t
rising_low p q k m t s hp hq lk lm same ls e = elim (cases_order s t) [
  | inl d ↦ let f : p s ≡ p t = ap p d in omega arith
  | inr w ↦ elim w [
    | inl l ↦ let f : p s ≡ q s = same s l in let g : q s < q t = hq s t l lm in absurd (omega arith)
    | inr l ↦ let g : p t < p s = hp t s l ls in omega arith
  ]
]

rising_same : (p q : ℕ → ℕ) (k m : ℕ) → Rises p k → Rises q m → Covers p k q m → Covers q m p k → (b t : ℕ) → t < b → t < k → t < m → p t ≡ q t
rising_same p q k m hp hq c d zero t l lk lm = absurd (omega arith)
rising_same p q k m hp hq c d (suc b) t l lk lm =
    let below : (u : ℕ) → u < b → u < k → u < m → p u ≡ q u = rising_same p q k m hp hq c d b in
    let same : (u : ℕ) → u < t → p u ≡ q u = λ u lu. below u (omega arith) (omega arith) (omega arith) in
    let one : p t ≤ q t = rising_low p q k m t (c t lm).0 hp hq lk lm same (c t lm).1 (c t lm).2 in
    let two : q t ≤ p t = rising_low q p m k t (d t lk).0 hq hp lm lk (λ u lu. sym (same u lu)) (d t lk).1 (d t lk).2 in
    omega arith

rising_long : (p q : ℕ → ℕ) (k m : ℕ) → Rises p k → Rises q m → Covers p k q m → Covers q m p k → k ≤ m
rising_long p q k m hp hq c d = elim (cases_lt m k) [
  | inr l ↦ l
  | inl l ↦
      let s : ℕ = (d m l).0 in
      let ls : s < m = (d m l).1 in
      let e : q s ≡ p m = (d m l).2 in
      let f : p s ≡ q s = rising_same p q k m hp hq c d m s ls (omega arith) ls in
      let g : p s < p m = hp s m ls l in
      absurd (omega arith)
]

module _ (size : ℕ) (mul : ℕ → ℕ → ℕ) (field : IsField size mul) where
  -- a combination of reduced rows has its values at the pivots as factors
  pub reduced_factors : (n : ℕ) (rows : ℕ → ℕ → ℕ) (r k : ℕ) (v : ℕ → ℕ) → ((i j : ℕ) → rows i j < size) → (h : IsReduced n rows r k) → IsCombination mul n rows r v
      → (j : ℕ) → j < n → v j ≡ combine mul k (λ t. v (h.pivots t)) rows j
  reduced_factors n rows r k v b h g j l =
      let w : IsCombination mul n rows k v = combination_through size mul field n rows r rows k v
      (λ i li. elim (cases_lt i k) [
        | inl m ↦ combination_row size mul field n rows k b i m
        | inr m ↦ combination_zero size mul field n rows k (rows i) (λ q lq. h.zeros i q m li lq)
      ]) g in
      let product : (t : ℕ) → t < k → v (h.pivots t) ≡ mul (w.factors t) 1 =
      λ t lt. w.is_sum (h.pivots t) (h.in_range t lt)
      ∙ sum-same k (λ q. mul (w.factors q) (rows q (h.pivots t))) (λ q. mul (w.factors q) (unit q t)) (λ q lq. ap (λ y. mul (w.factors q) y) (h.columns q t lq lt))
      ∙ sum_unit size mul field k w.factors t lt in
      w.is_sum j l ∙ sum-same k (λ t. mul (w.factors t) (rows t j)) (λ t. mul (v (h.pivots t)) (rows t j))
      (λ t lt. sym (ap (λ y. mul y (rows t j)) (product t lt ∙ field.mul_comm (w.factors t) 1) ∙ one_mul-mul size mul field (w.factors t) (rows t j)))

  -- the first place at which a combination is not 0 is a pivot
  pub reduced_lead : (n : ℕ) (rows : ℕ → ℕ → ℕ) (r k : ℕ) (v : ℕ → ℕ) (j : ℕ) → ((i j : ℕ) → rows i j < size) → (h : IsReduced n rows r k) → IsCombination mul n rows r v
      → j < n → ((i : ℕ) → i < j → v i ≡ 0) → v j ≢ 0 → (t : ℕ) × (t < k) × (h.pivots t ≡ j)
  reduced_lead n rows r k v j b h g l z d = elim (cases_Bool (any_below k (λ t. eqb (h.pivots t) j))) [
    | inl e ↦
        let w : (t : ℕ) × (t < k) × (eqb (h.pivots t) j ≡ true) = any_below-yes k (λ t. eqb (h.pivots t) j) e in
        (w.0, w.1, eqb-true (h.pivots w.0) j w.2)
    | inr e ↦ absurd (d (reduced_factors n rows r k v b h g j l ∙ sum-zero k (λ t. mul (v (h.pivots t)) (rows t j))
        (λ t lt. elim (cases_order (h.pivots t) j) [
          | inl f ↦ absurd (both_ways (any_below k (λ t. eqb (h.pivots t) j)) e (any_below-from k (λ t. eqb (h.pivots t) j) t lt (eq-eqb (h.pivots t) j f)))
          | inr w ↦ elim w [
            | inl m ↦ ap (λ y. mul y (rows t j)) (z (h.pivots t) m) ∙ zero-mul size mul field (rows t j)
            | inr m ↦ ap (λ y. mul (v (h.pivots t)) y) (h.before t j lt m) ∙ mul-zero size mul field (v (h.pivots t))
          ]
        ])))
  ]

  pub reduced_covers : (n : ℕ) (rows others : ℕ → ℕ → ℕ) (r s k m : ℕ) → ((i j : ℕ) → rows i j < size) → (h : IsReduced n rows r k) → (g : IsReduced n others s m)
      → ((i : ℕ) → i < s → IsCombination mul n rows r (others i)) → Covers h.pivots k g.pivots m
  reduced_covers n rows others r s k m b h g all t l =
      let few : m ≤ s = g.few in
      reduced_lead n rows r k (others t) (g.pivots t) b h (all t (omega arith)) (g.in_range t l) (λ i u. g.before t i l u)
      (λ e. let f : others t (g.pivots t) ≡ 1 = g.columns t t l l ∙ put-same (λ i. 0) t 1 in omega arith)

  -- as many rows of the two forms are not 0
  pub reduced_count : (n : ℕ) (rows others : ℕ → ℕ → ℕ) (r s k m : ℕ) → ((i j : ℕ) → rows i j < size) → ((i j : ℕ) → others i j < size) → IsReduced n rows r k → IsReduced n others s m
      → SameSpan mul n rows r others s → k ≡ m
  reduced_count n rows others r s k m b c h g e =
      let one : Covers h.pivots k g.pivots m = reduced_covers n rows others r s k m b h g e.back in
      let two : Covers g.pivots m h.pivots k = reduced_covers n others rows s r m k c g h e.forth in
      omega (arith, rising_long h.pivots g.pivots k m h.rising g.rising one two, rising_long g.pivots h.pivots m k g.rising h.rising two one)

  -- the two forms are one
  pub reduced_unique : (n : ℕ) (rows others : ℕ → ℕ → ℕ) (r k m : ℕ) → ((i j : ℕ) → rows i j < size) → ((i j : ℕ) → others i j < size) → IsReduced n rows r k → IsReduced n others r m
      → SameSpan mul n rows r others r → (i j : ℕ) → i < r → j < n → rows i j ≡ others i j
  reduced_unique n rows others r k m b c h g e i j li lj =
      let one : Covers h.pivots k g.pivots m = reduced_covers n rows others r r k m b h g e.back in
      let two : Covers g.pivots m h.pivots k = reduced_covers n others rows r r m k c g h e.forth in
      let count : k ≡ m = reduced_count n rows others r r k m b c h g e in
      elim (cases_lt i k) [
        | inl l ↦
            sym (reduced_factors n rows r k (others i) b h (e.back i li) j lj
            ∙ sum-same k (λ t. mul (others i (h.pivots t)) (rows t j)) (λ t. mul (unit i t) (rows t j))
            (λ t lt. ap (λ y. mul y (rows t j)) (ap (λ y. others i y) (rising_same h.pivots g.pivots k m h.rising g.rising one two k t lt lt (omega arith)) ∙ g.columns i t (omega arith) (omega arith)))
            ∙ unit_sum size mul field k (λ t. rows t j) i l ∙ field.one_mul (rows i j) (b i j))
        | inr l ↦ h.zeros i j l li lj ∙ sym (g.zeros i j (omega arith) li lj)
      ]

  -- the rows that are not 0 are independent, so the rank is their number
  pub reduced_rank : (n : ℕ) (rows : ℕ → ℕ → ℕ) (r k : ℕ) → IsReduced n rows r k → rank size mul n rows r ≡ k
  reduced_rank n rows r k h =
      let few : k ≤ r = h.few in
      let new : AreNew mul n rows k = record {
        at_row = λ i l c.
            let z : rows i (h.pivots i) ≡ 0 =
            c.is_sum (h.pivots i) (h.in_range i l)
            ∙ sum-zero i (λ q. mul (c.factors q) (rows q (h.pivots i)))
            (λ q m. ap (λ y. mul (c.factors q) y) (h.columns q i (omega arith) l ∙ put-other (λ u. 0) q 1 i (omega arith)) ∙ mul-zero size mul field (c.factors q)) in
            let o : rows i (h.pivots i) ≡ 1 = h.columns i i l l ∙ put-same (λ u. 0) i 1 in
            omega arith;
      } in
      let e : rank size mul n rows (k + (r - k)) ≡ k = rank_of_echelon size mul field n rows k (r - k) new (λ i a b j u. h.zeros i j a (omega arith) u) in
      subst (λ (q : ℕ). rank size mul n rows q ≡ k) (omega arith) e
