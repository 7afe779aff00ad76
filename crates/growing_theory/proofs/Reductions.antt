-- A reduction holds the pivots of its matrix
use Rattle.std.proofs.lemmas.Bool.{cases_eq}
use Rattle.std.proofs.Common.{◌≡◌, ◌≢◌, ℕ, zero, suc, ◌<◌, ◌≤◌, sym, ◌∙◌, ap, subst, refl, inl, inr, arith, bit_xor}
use Rattle.std.specs.Int.Bits.{xor_self}
use Rattle.field_theory.specs.Field.{IsField}
use Rattle.field_theory.specs.Sums.{xor_sum}
use Rattle.linear_theory.specs.Linear.{IsCombination}
use Rattle.field_theory.proofs.Sums.{sum_below, zero-mul}
use Rattle.linear_theory.proofs.Spans.{combination_zero, combination_same, combination_xor, combination_scale, combination_row, combination_more}
use Rattle.growing_theory.specs.Pivots.{ArePivots}
use Rattle.growing_theory.specs.Reduction.{kept, HasPivots, IsReduction}

module _ (size : ℕ) (mul : ℕ → ℕ → ℕ) (field : IsField size mul) where
  pub kept_below : (span : ℕ → ℕ) (F R : ℕ → ℕ → ℕ) (i j : ℕ) → kept mul span F R i j < size
  kept_below span F R i j = sum_below size mul field (span i) (λ t. mul (F i t) (R t j)) (λ t l. field.mul_below (F i t) (R t j))

  -- a combination of some rows is one of more
  combination_up : (m : ℕ) (S : ℕ → ℕ → ℕ) (r i : ℕ) (v : ℕ → ℕ) → r ≤ i → IsCombination mul m S r v → IsCombination mul m S i v
  combination_up m S r zero v l h = subst (λ (q : ℕ). IsCombination mul m S q v) (let e : r ≡ zero = omega arith in e) h
  combination_up m S r (suc i) v l h = elim (cases_eq r (suc i)) [
    | inl e ↦ subst (λ (q : ℕ). IsCombination mul m S q v) e h
    | inr d ↦ combination_more size mul field (combination_up m S r i v (omega arith) h)
  ]

  -- a sum of multiples of vectors that are combinations
  sum_combination : (m k i : ℕ) (S R : ℕ → ℕ → ℕ) (f : ℕ → ℕ) → ((t : ℕ) → t < k → f t ≢ 0 → IsCombination mul m S i (R t)) → IsCombination mul m S i (λ j. xor_sum k (λ t. mul (f t) (R t j)))
  sum_combination m zero i S R f h = combination_zero size mul field m S i (λ j. 0) (λ j l. refl)
  sum_combination m (suc k) i S R f h =
      combination_xor size mul field (sum_combination m k i S R f (λ t l. h t (omega arith)))
      (elim (cases_eq (f k) 0) [
        | inl e ↦ combination_zero size mul field m S i (λ j. mul (f k) (R k j)) (λ j l. ap (λ x. mul x (R k j)) e ∙ zero-mul size mul field (R k j))
        | inr d ↦ combination_scale size mul field (f k) (h k (omega arith) d)
      ])

  one_not_zero : (x y : ℕ) → mul x y ≡ 1 → x ≢ 0
  one_not_zero x y e z = let u : mul x y ≡ 0 = ap (λ w. mul w y) z ∙ zero-mul size mul field y in omega arith

  module _ (n k : ℕ) (S F R : ℕ → ℕ → ℕ) (span known pivot number rows inverse : ℕ → ℕ) (s : (i j : ℕ) → S i j < size)
      (h : HasPivots mul n k F R span known pivot number rows inverse) (w : IsReduction mul n k S F R span known pivot rows) where
    -- what a row keeps is a combination of the rows above it
    kept_combination : (b i m : ℕ) → i < b → i < n → ((p : ℕ) → p < i → m ≤ known p) → IsCombination mul m S i (kept mul span F R i)
    kept_combination zero i m lb li up = absurd (omega arith)
    kept_combination (suc b) i m lb li up =
        sum_combination m (span i) i S R (F i)
        (λ t lt d.
        let few : span i ≤ k = h.spans i li in
        let lr : rows t < i = h.above i t li lt d in
        let wide : m ≤ known (rows t) = up (rows t) lr in
        combination_same size mul field (R t)
        (combination_xor size mul field (combination_row size mul field m S i s (rows t) lr)
        (combination_up m S (rows t) i (kept mul span F R (rows t)) (omega arith) (kept_combination b (rows t) m (omega arith) (omega arith) (λ p l. up p (omega arith)))))
        (λ j l. sym (w.pivot_rows t j (omega arith) (omega arith))))

    pub reduction_pivots : ArePivots mul n S (kept mul span F R) known pivot
    reduction_pivots = record {
      width = h.width;
      falls = h.falls;
      corrected = λ i m l _ up. kept_combination (suc i) i m (omega arith) l up;
      before = λ i j l u v. ap (λ x. bit_xor x (kept mul span F R i j)) (w.before i j l u v) ∙ xor_self (kept mul span F R i j);
      lead = λ i l m.
          let wide : known i ≤ n = h.width i l in
          let at : (number (pivot i) < k) × (rows (number (pivot i)) ≡ i) = h.numbered i l (omega arith) in
          let one : mul (R (number (pivot i)) (pivot i)) (inverse (number (pivot i))) ≡ 1 = subst (λ (r : ℕ). mul (R (number (pivot i)) (pivot r)) (inverse (number (pivot i))) ≡ 1) at.1 (h.lead (number (pivot i)) at.0) in
          let is : R (number (pivot i)) (pivot i) ≡ bit_xor (S i (pivot i)) (kept mul span F R i (pivot i)) =
          subst (λ (r : ℕ). R (number (pivot i)) (pivot i) ≡ bit_xor (S r (pivot i)) (kept mul span F R r (pivot i))) at.1
          (w.pivot_rows (number (pivot i)) (pivot i) at.0 (subst (λ (r : ℕ). pivot i < known r) (sym at.1) m)) in
          λ z. one_not_zero (R (number (pivot i)) (pivot i)) (inverse (number (pivot i))) one (is ∙ z);
      apart = λ p q lp lq m e.
          let wide : known p ≤ n = h.width p lp in
          sym (h.numbered p lp (omega arith)).1 ∙ ap (λ c. rows (number c)) e ∙ (h.numbered q lq (omega arith)).1;
    }
