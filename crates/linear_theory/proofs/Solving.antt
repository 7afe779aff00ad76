-- Equations, and the dual list read off an inverse
use Rattle.std.proofs.lemmas.Bool.{cases_lt, cases_order, cases_Bool, eqb-true, eq-eqb, both_ways}
use Rattle.std.proofs.Common.{◌≡◌, ◌≢◌, ◌↔◌, ℕ, suc, ◌<◌, ◌≤◌, true, eqb, sym, ◌∙◌, ap, subst, refl, inl, inr, arith, bit_xor}
use Rattle.std.specs.Int.Bits.{xor_self}
use Rattle.field_theory.specs.Field.{IsField}
use Rattle.field_theory.specs.Sums.{xor_sum, any_below, put, unit}
use Rattle.linear_theory.specs.Linear.{dot, combine, SameSpan, IsReduced, IsSolution, IsDual, rank}
use Rattle.field_theory.proofs.Sums.{sum-same, sum-zero, sum-only, xor_same, zero-mul, mul-zero, mul_one}
use Rattle.linear_theory.proofs.Spans.{put-same, put-other, any_below-yes, any_below-from}
use Rattle.linear_theory.proofs.Exchange.{new_of_rank, independent_of_new}
use Rattle.linear_theory.proofs.Flips.{orthogonal_span, rank_full}
use Rattle.linear_theory.proofs.Duals.{dot_combine, dot_comm, unit_sum, dual_of_factors}

-- the pivots are apart
pub pivot_apart : {n : ℕ} {rows : ℕ → ℕ → ℕ} {r k : ℕ} (h : IsReduced n rows r k) (t s : ℕ) → t < k → s < k → h.pivots t ≡ h.pivots s → t ≡ s
pivot_apart h t s lt ls e = elim (cases_order t s) [
  | inl d ↦ d
  | inr w ↦ elim w [
    | inl l ↦ let f : h.pivots t < h.pivots s = h.rising t s l ls in absurd (omega arith)
    | inr l ↦ let f : h.pivots s < h.pivots t = h.rising s t l lt in absurd (omega arith)
  ]
]

module _ (size : ℕ) (mul : ℕ → ℕ → ℕ) (field : IsField size mul) where
  -- the equation of a row, as a product with x and a 1 behind it
  pub augmented : (n : ℕ) (row x : ℕ → ℕ) → row n < size → dot mul (suc n) row (put x n 1) ≡ bit_xor (dot mul n row x) (row n)
  augmented n row x l =
      ap (λ y. bit_xor y (mul (row n) (put x n 1 n))) (sum-same n (λ p. mul (row p) (put x n 1 p)) (λ p. mul (row p) (x p)) (λ p u. ap (λ y. mul (row p) y) (put-other x n 1 p (omega arith))))
      ∙ ap (λ y. bit_xor (dot mul n row x) y) (ap (λ y. mul (row n) y) (put-same x n 1) ∙ mul_one size mul field (row n) l)

  pub solution-orthogonal : (n : ℕ) (rows : ℕ → ℕ → ℕ) (r : ℕ) (x : ℕ → ℕ) → ((i j : ℕ) → rows i j < size) → IsSolution mul n rows r x ↔ ((i : ℕ) → i < r → dot mul (suc n) (rows i) (put x n 1) ≡ 0)
  solution-orthogonal n rows r x b = (
    λ h i l. augmented n (rows i) x (b i n) ∙ ap (λ y. bit_xor y (rows i n)) (h.solves i l) ∙ xor_self (rows i n),
    λ h. record { solves = λ i l. xor_same (dot mul n (rows i) x) (rows i n) (sym (augmented n (rows i) x (b i n)) ∙ h i l) },
  )

  -- rows that span the same have the same solutions
  pub solution_span : (n : ℕ) (rows : ℕ → ℕ → ℕ) (r : ℕ) (others : ℕ → ℕ → ℕ) (s : ℕ) (x : ℕ → ℕ) → ((i j : ℕ) → rows i j < size) → ((i j : ℕ) → others i j < size)
      → SameSpan mul (suc n) rows r others s → IsSolution mul n rows r x → IsSolution mul n others s x
  solution_span n rows r others s x b c e h =
      (solution-orthogonal n others s x c).1 (λ i l. orthogonal_span size mul field (suc n) rows r (others i) (put x n 1) ((solution-orthogonal n rows r x b).0 h) (e.back i l))

  -- a pivot in the column of the right sides: no solution
  pub reduced_no_solution : (n : ℕ) (rows : ℕ → ℕ → ℕ) (r k t : ℕ) (x : ℕ → ℕ) → (h : IsReduced (suc n) rows r k) → t < k → h.pivots t ≡ n → IsSolution mul n rows r x → ⊥
  reduced_no_solution n rows r k t x h l e s =
      let few : k ≤ r = h.few in
      let none : dot mul n (rows t) x ≡ 0 = sum-zero n (λ p. mul (rows t p) (x p)) (λ p u. ap (λ y. mul y (x p)) (h.before t p l (omega arith)) ∙ zero-mul size mul field (x p)) in
      let one : rows t n ≡ 1 = ap (λ y. rows t y) (sym e) ∙ h.columns t t l l ∙ put-same (λ i. 0) t 1 in
      let both : dot mul n (rows t) x ≡ rows t n = s.solves t (omega arith) in
      omega arith

  -- the solution that is 0 but at the pivots
  abbrev pub solution_of : (ℕ → ℕ → ℕ) → ℕ → ℕ → (ℕ → ℕ) → ℕ → ℕ
  solution_of rows n k pivots j = xor_sum k (λ t. mul (rows t n) (unit (pivots t) j))

  pub solution_of-pivot : (n : ℕ) (rows : ℕ → ℕ → ℕ) (r k t : ℕ) → ((i j : ℕ) → rows i j < size) → (h : IsReduced (suc n) rows r k) → t < k → solution_of rows n k h.pivots (h.pivots t) ≡ rows t n
  solution_of-pivot n rows r k t b h l =
      sum-only k (λ s. mul (rows s n) (unit (h.pivots s) (h.pivots t))) t l
      (λ s ls d. ap (λ y. mul (rows s n) y) (put-other (λ i. 0) (h.pivots s) 1 (h.pivots t) (λ e. d (sym (pivot_apart h t s l ls e)))) ∙ mul-zero size mul field (rows s n))
      ∙ ap (λ y. mul (rows t n) y) (put-same (λ i. 0) (h.pivots t) 1) ∙ mul_one size mul field (rows t n) (b t n)

  pub solution_of-free : (n : ℕ) (rows : ℕ → ℕ → ℕ) (k : ℕ) (pivots : ℕ → ℕ) (j : ℕ) → ((t : ℕ) → t < k → pivots t ≢ j) → solution_of rows n k pivots j ≡ 0
  solution_of-free n rows k pivots j d =
      sum-zero k (λ t. mul (rows t n) (unit (pivots t) j)) (λ t l. ap (λ y. mul (rows t n) y) (put-other (λ i. 0) (pivots t) 1 j (λ e. d t l (sym e))) ∙ mul-zero size mul field (rows t n))

  pub reduced_solution : (n : ℕ) (rows : ℕ → ℕ → ℕ) (r k : ℕ) → ((i j : ℕ) → rows i j < size) → (h : IsReduced (suc n) rows r k) → ((t : ℕ) → t < k → h.pivots t < n) → IsSolution mul n rows r (solution_of rows n k h.pivots)
  reduced_solution n rows r k b h low = record {
    solves = λ i li.
        let x : ℕ → ℕ = solution_of rows n k h.pivots in
        let product : dot mul n (rows i) x ≡ xor_sum k (λ t. mul (rows t n) (rows i (h.pivots t))) =
        dot_comm size mul field n (rows i) x ∙ dot_combine size mul field n (λ t. unit (h.pivots t)) k (λ t. rows t n) x (rows i) (λ p l. refl)
        ∙ sum-same k (λ t. mul (rows t n) (dot mul n (unit (h.pivots t)) (rows i))) (λ t. mul (rows t n) (rows i (h.pivots t)))
        (λ t l. ap (λ y. mul (rows t n) y) (unit_sum size mul field n (rows i) (h.pivots t) (low t l) ∙ field.one_mul (rows i (h.pivots t)) (b i (h.pivots t)))) in
        elim (cases_lt i k) [
          | inl l ↦ product ∙ sum-same k (λ t. mul (rows t n) (rows i (h.pivots t))) (λ t. mul (unit i t) (rows t n))
              (λ t m. ap (λ y. mul (rows t n) y) (h.columns i t l m) ∙ field.mul_comm (rows t n) (unit i t))
              ∙ unit_sum size mul field k (λ t. rows t n) i l ∙ field.one_mul (rows i n) (b i n)
          | inr l ↦ product ∙ sum-zero k (λ t. mul (rows t n) (rows i (h.pivots t))) (λ t m. ap (λ y. mul (rows t n) y) (h.zeros i (h.pivots t) l li (h.in_range t m)) ∙ mul-zero size mul field (rows t n))
              ∙ sym (h.zeros i n l li (omega arith))
        ];
  }

  -- a solution that is 0 but at the pivots is that one
  pub reduced_solution_unique : (n : ℕ) (rows : ℕ → ℕ → ℕ) (r k : ℕ) (x : ℕ → ℕ) → ((i j : ℕ) → rows i j < size) → ((j : ℕ) → x j < size) → (h : IsReduced (suc n) rows r k) → ((t : ℕ) → t < k → h.pivots t < n)
      → IsSolution mul n rows r x → ((j : ℕ) → j < n → ((t : ℕ) → t < k → h.pivots t ≢ j) → x j ≡ 0) → (j : ℕ) → j < n → x j ≡ solution_of rows n k h.pivots j
  reduced_solution_unique n rows r k x b c h low s free j l =
      elim (cases_Bool (any_below k (λ t. eqb (h.pivots t) j))) [
        | inl e ↦
            let w : (t : ℕ) × (t < k) × (eqb (h.pivots t) j ≡ true) = any_below-yes k (λ t. eqb (h.pivots t) j) e in
            let d : h.pivots w.0 ≡ j = eqb-true (h.pivots w.0) j w.2 in
            subst (λ (q : ℕ). x q ≡ solution_of rows n k h.pivots q) d (pivot_value w.0 w.1 ∙ sym (solution_of-pivot n rows r k w.0 b h w.1))
        | inr e ↦
            let apart : (t : ℕ) → t < k → h.pivots t ≢ j = λ t m d. both_ways (any_below k (λ t. eqb (h.pivots t) j)) e (any_below-from k (λ t. eqb (h.pivots t) j) t m (eq-eqb (h.pivots t) j d)) in
            free j l apart ∙ sym (solution_of-free n rows k h.pivots j apart)
      ]
    where
      other_value : (t q : ℕ) → t < k → q < n → q ≢ h.pivots t → mul (rows t q) (x q) ≡ 0
      other_value t q lt lq ne = elim (cases_Bool (any_below k (λ u. eqb (h.pivots u) q))) [
        | inl e ↦
            let w : (u : ℕ) × (u < k) × (eqb (h.pivots u) q ≡ true) = any_below-yes k (λ u. eqb (h.pivots u) q) e in
            let d : h.pivots w.0 ≡ q = eqb-true (h.pivots w.0) q w.2 in
            ap (λ y. mul y (x q)) (ap (λ y. rows t y) (sym d) ∙ h.columns t w.0 lt w.1 ∙ put-other (λ i. 0) t 1 w.0 (λ f. ne (sym d ∙ ap h.pivots f))) ∙ zero-mul size mul field (x q)
        | inr e ↦ ap (λ y. mul (rows t q) y) (free q lq (λ u m d. both_ways (any_below k (λ u. eqb (h.pivots u) q)) e (any_below-from k (λ u. eqb (h.pivots u) q) u m (eq-eqb (h.pivots u) q d)))) ∙ mul-zero size mul field (rows t q)
      ]

      pivot_value : (t : ℕ) → t < k → x (h.pivots t) ≡ rows t n
      pivot_value t lt =
          let few : k ≤ r = h.few in
          sym (sum-only n (λ q. mul (rows t q) (x q)) (h.pivots t) (low t lt) (λ q lq ne. other_value t q lt lq ne)
          ∙ ap (λ y. mul y (x (h.pivots t))) (h.columns t t lt lt ∙ put-same (λ i. 0) t 1) ∙ field.one_mul (x (h.pivots t)) (c (h.pivots t)))
          ∙ s.solves t (omega arith)

  -- The dual list read off a left inverse: row k of it gives the unit vector k
  pub dual_of_inverse : (n : ℕ) (rows a : ℕ → ℕ → ℕ) → ((i j : ℕ) → rows i j < size) → ((k : ℕ) → k < n → (j : ℕ) → j < n → unit k j ≡ combine mul n (a k) rows j) → IsDual mul n rows (λ j k. a k j)
  dual_of_inverse n rows a b e =
      let full : rank size mul n rows n ≡ n = rank_full size mul field n rows n b (λ k l. record { factors = a k; is_sum = e k l }) in
      dual_of_factors size mul field n rows a b (independent_of_new size mul field n rows n b (new_of_rank size mul field n rows n full)) e
