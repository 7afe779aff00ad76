-- The rows that are no combination of the rows before them, in their order
use Rattle.std.proofs.lemmas.Bool.{cases_lt}
use Rattle.std.proofs.Common.{◌≡◌, ℕ, zero, suc, ◌<◌, ◌≤◌, sym, ◌∙◌, ap, subst, refl, inl, inr, arith, add-one}
use Rattle.field_theory.specs.Field.{IsField}
use Rattle.field_theory.specs.Sums.{put}
use Rattle.linear_theory.specs.Linear.{IsCombination, AreNew, AreIndependent, rank, IsOrderedBasis}
use Rattle.field_theory.proofs.Sums.{eq_or_below}
use Rattle.linear_theory.proofs.Spans.{put-same, put-other, combination_same, combination_more, combination_last, combination_row, combination_through}
use Rattle.linear_theory.proofs.Ranks.{rank_same, rank_more, cases_rank, rank_zero, rank-le-more}
use Rattle.linear_theory.proofs.Exchange.{combination_rows, independent_of_new}
use Rattle.linear_theory.proofs.Bases.{picked_before}

module _ (size : ℕ) (mul : ℕ → ℕ → ℕ) (field : IsField size mul) where
  pub rank-mono : (n : ℕ) (rows : ℕ → ℕ → ℕ) (i r : ℕ) → i ≤ r → rank size mul n rows i ≤ rank size mul n rows r
  rank-mono n rows i zero l = let e : i ≡ 0 = omega arith in subst (λ (q : ℕ). rank size mul n rows i ≤ rank size mul n rows q) e (omega arith)
  rank-mono n rows i (suc r) l = elim (cases_lt i (suc r)) [
    | inl u ↦ let a : rank size mul n rows i ≤ rank size mul n rows r = rank-mono n rows i r (omega arith) in let b : rank size mul n rows r ≤ rank size mul n rows (suc r) = rank-le-more size mul field n rows r in omega arith
    | inr u ↦ let e : i ≡ suc r = omega arith in subst (λ (q : ℕ). rank size mul n rows i ≤ rank size mul n rows q) e (omega arith)
  ]

  ordered_kept : (n : ℕ) (rows : ℕ → ℕ → ℕ) (r k : ℕ) → IsOrderedBasis size mul n rows r k → IsCombination mul n rows r (rows r) → IsOrderedBasis size mul n rows (suc r) k
  ordered_kept n rows r k h g =
      let same : rank size mul n rows (suc r) ≡ rank size mul n rows r = rank_same size mul field n rows r g in
      record {
        picks = h.picks;
        within = λ t l. let m : h.picks t < r = h.within t l in omega arith;
        rising = h.rising;
        place = h.place;
        fresh = h.fresh;
        found = λ i l d. elim (eq_or_below i r l) [
          | inl e ↦ absurd (d (subst (λ (q : ℕ). IsCombination mul n rows q (rows q)) (sym e) g))
          | inr m ↦ h.found i m d
        ];
        spans = λ i q l m. elim (cases_lt i (suc r)) [
          | inl u ↦ h.spans i q (omega arith) m
          | inr u ↦
              let e : i ≡ suc r = omega arith in
              subst (λ (s : ℕ). IsCombination mul n (λ t. rows (h.picks t)) s (rows q)) (sym (ap (λ (s : ℕ). rank size mul n rows s) e ∙ same)) (elim (eq_or_below q r (omega arith)) [
                | inl f ↦ subst (λ (s : ℕ). IsCombination mul n (λ t. rows (h.picks t)) (rank size mul n rows r) (rows s)) (sym f)
                    (combination_through size mul field n rows r (λ t. rows (h.picks t)) (rank size mul n rows r) (rows r) (λ s v. h.spans r s (omega arith) v) g)
                | inr v ↦ h.spans r q (omega arith) v
              ])
        ];
      }

  ordered_grown : (n : ℕ) (rows : ℕ → ℕ → ℕ) (r k : ℕ) → ((i j : ℕ) → rows i j < size) → k ≡ rank size mul n rows r → IsOrderedBasis size mul n rows r k → (IsCombination mul n rows r (rows r) → ⊥) → IsOrderedBasis size mul n rows (suc r) (suc k)
  ordered_grown n rows r k b is h d =
      let p : ℕ → ℕ = put h.picks k r in
      let at_k : p k ≡ r = put-same h.picks k r in
      let at : (t : ℕ) → t < k → p t ≡ h.picks t = λ t l. put-other h.picks k r t (omega arith) in
      let more : rank size mul n rows (suc r) ≡ suc k = rank_more size mul field n rows r d ∙ add-one (rank size mul n rows r) ∙ ap (λ (s : ℕ). suc s) (sym is) in
      let old : (i q : ℕ) → i ≤ r → q < i → IsCombination mul n (λ t. rows (p t)) (rank size mul n rows i) (rows q) =
      λ i q l m.
      let below : rank size mul n rows i ≤ rank size mul n rows r = rank-mono n rows i r l in
      combination_rows (λ t. rows (p t)) (λ t u j w. sym (picked_before rows h.picks k r t (omega arith) j)) (h.spans i q l m) in
      record {
        picks = p;
        within = λ t l. elim (eq_or_below t k l) [
          | inl e ↦ let u : p t ≡ r = ap p e ∙ at_k in omega arith
          | inr m ↦ let u : p t ≡ h.picks t = at t m in let w : h.picks t < r = h.within t m in omega arith
        ];
        rising = λ t u a l. elim (eq_or_below u k l) [
          | inl e ↦
              let x : p u ≡ r = ap p e ∙ at_k in
              let y : p t ≡ h.picks t = at t (omega arith) in
              let w : h.picks t < r = h.within t (omega arith) in
              omega arith
          | inr m ↦
              let x : p u ≡ h.picks u = at u m in
              let y : p t ≡ h.picks t = at t (omega arith) in
              let w : h.picks t < h.picks u = h.rising t u a m in
              omega arith
        ];
        place = λ t l. elim (eq_or_below t k l) [
          | inl e ↦ ap (λ (s : ℕ). rank size mul n rows s) (ap p e ∙ at_k) ∙ sym is ∙ sym e
          | inr m ↦ ap (λ (s : ℕ). rank size mul n rows s) (at t m) ∙ h.place t m
        ];
        fresh = λ t l c. elim (eq_or_below t k l) [
          | inl e ↦ d (subst (λ (q : ℕ). IsCombination mul n rows q (rows q)) (ap p e ∙ at_k) c)
          | inr m ↦ h.fresh t m (subst (λ (q : ℕ). IsCombination mul n rows q (rows q)) (at t m) c)
        ];
        found = λ i l c. elim (eq_or_below i r l) [
          | inl e ↦
              let f : rank size mul n rows i ≡ k = ap (λ (s : ℕ). rank size mul n rows s) e ∙ sym is in
              (omega arith, ap p f ∙ at_k ∙ sym e)
          | inr m ↦
              let w : (rank size mul n rows i < k) × (h.picks (rank size mul n rows i) ≡ i) = h.found i m c in
              (omega arith, at (rank size mul n rows i) w.0 ∙ w.1)
        ];
        spans = λ i q l m. elim (cases_lt i (suc r)) [
          | inl u ↦ old i q (omega arith) m
          | inr u ↦
              let e : i ≡ suc r = omega arith in
              subst (λ (s : ℕ). IsCombination mul n (λ t. rows (p t)) s (rows q)) (sym (ap (λ (s : ℕ). rank size mul n rows s) e ∙ more)) (elim (eq_or_below q r (omega arith)) [
                | inl f ↦ subst (λ (s : ℕ). IsCombination mul n (λ t. rows (p t)) (suc k) (rows s)) (sym f)
                    (combination_same size mul field (rows r) (combination_last size mul field n (λ t. rows (p t)) k (b (p k))) (λ j w. ap (λ (s : ℕ). rows s j) at_k))
                | inr v ↦ combination_more size mul field (subst (λ (s : ℕ). IsCombination mul n (λ t. rows (p t)) s (rows q)) (sym is) (old r q (omega arith) v))
              ])
        ];
      }

  pub ordered_basis : (n : ℕ) (rows : ℕ → ℕ → ℕ) (r : ℕ) → ((i j : ℕ) → rows i j < size) → IsOrderedBasis size mul n rows r (rank size mul n rows r)
  ordered_basis n rows zero b = subst (λ (k : ℕ). IsOrderedBasis size mul n rows 0 k) (sym (rank_zero size mul field n rows)) (record {
    picks = λ t. 0;
    within = λ t l. absurd (omega arith);
    rising = λ t u a l. absurd (omega arith);
    place = λ t l. absurd (omega arith);
    fresh = λ t l c. omega arith;
    found = λ i l d. absurd (omega arith);
    spans = λ i q l m. absurd (omega arith);
  })
  ordered_basis n rows (suc r) b =
      let h : IsOrderedBasis size mul n rows r (rank size mul n rows r) = ordered_basis n rows r b in
      elim (cases_rank size mul field n rows r) [
        | inl c ↦ subst (λ (k : ℕ). IsOrderedBasis size mul n rows (suc r) k) (sym c.1) (ordered_kept n rows r (rank size mul n rows r) h c.0)
        | inr c ↦ subst (λ (k : ℕ). IsOrderedBasis size mul n rows (suc r) k) (sym (c.1 ∙ add-one (rank size mul n rows r))) (ordered_grown n rows r (rank size mul n rows r) b refl h c.0)
      ]

  -- the rows of an ordered basis are independent
  pub ordered_new : (n : ℕ) (rows : ℕ → ℕ → ℕ) (r k : ℕ) → ((i j : ℕ) → rows i j < size) → (h : IsOrderedBasis size mul n rows r k) → AreNew mul n (λ t. rows (h.picks t)) k
  ordered_new n rows r k b h = record {
    at_row = λ t l c.
        h.fresh t l (combination_through size mul field n (λ u. rows (h.picks u)) t rows (h.picks t) (rows (h.picks t))
        (λ u m. combination_row size mul field n rows (h.picks t) b (h.picks u) (h.rising u t m l)) c);
  }

  pub ordered_independent : (n : ℕ) (rows : ℕ → ℕ → ℕ) (r k : ℕ) → ((i j : ℕ) → rows i j < size) → (h : IsOrderedBasis size mul n rows r k) → AreIndependent size mul n (λ t. rows (h.picks t)) k
  ordered_independent n rows r k b h = independent_of_new size mul field n (λ t. rows (h.picks t)) k (λ i j. b (h.picks i) j) (ordered_new n rows r k b h)
