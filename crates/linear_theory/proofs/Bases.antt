-- The rank is the greatest number of independent rows, and depends on the span alone
use Rattle.std.proofs.lemmas.Bool.{cases_eq, cond-true, cond-false, eq-eqb, ne_eqb}
use Rattle.std.proofs.Common.{◌≡◌, ◌≢◌, ◌↔◌, ℕ, zero, suc, ◌<◌, ◌≤◌, sym, ◌∙◌, ap, subst, refl, inl, inr, arith, bit_xor, add-one, cond, eqb}
use Rattle.field_theory.specs.Field.{IsField}
use Rattle.field_theory.specs.Sums.{put}
use Rattle.linear_theory.specs.Linear.{AreNew, IsCombination, AreIndependent, rank}
use Rattle.field_theory.proofs.Sums.{eq_or_below, xor_below}
use Rattle.linear_theory.proofs.Spans.{put-same, put-other, combination_same, combination_xor, combination_scale, combination_more, combination_last, combination_row, combination_through}
use Rattle.linear_theory.proofs.Ranks.{cases_rank, rank_zero, combination_front}
use Rattle.linear_theory.proofs.Exchange.{combination_rows, rank_of_new, new_of_independent, independent_of_new, exchange_new}

-- k of the rows below r, named by `picks`, that are independent and span all of them
pub record IsBasis (mul : ℕ → ℕ → ℕ) (n : ℕ) (rows : ℕ → ℕ → ℕ) (r : ℕ) (k : ℕ) : Type 0 where
  pub picks : ℕ → ℕ
  pub within : (t : ℕ) → t < k → picks t < r
  pub fresh : AreNew mul n (λ t. rows (picks t)) k
  pub spans : (i : ℕ) → i < r → IsCombination mul n (λ t. rows (picks t)) k (rows i)

-- the rows before the last picked one are the rows that were picked before
pub picked_before : (rows : ℕ → ℕ → ℕ) (b : ℕ → ℕ) (k r t : ℕ) → t < k → (j : ℕ) → rows (put b k r t) j ≡ rows (b t) j
picked_before rows b k r t l j = ap (λ i. rows i j) (put-other b k r t (omega arith))

module _ (size : ℕ) (mul : ℕ → ℕ → ℕ) (field : IsField size mul) where
  basis_kept : (n : ℕ) (rows : ℕ → ℕ → ℕ) (r k : ℕ) → IsBasis mul n rows r k → IsCombination mul n rows r (rows r) → IsBasis mul n rows (suc r) k
  basis_kept n rows r k h g = record {
    picks = h.picks;
    within = λ t l. let m : h.picks t < r = h.within t l in omega arith;
    fresh = h.fresh;
    spans = λ i l. elim (eq_or_below i r l) [
      | inl e ↦ subst (λ (q : ℕ). IsCombination mul n (λ t. rows (h.picks t)) k (rows q)) (sym e)
          (combination_through size mul field n rows r (λ t. rows (h.picks t)) k (rows r) h.spans g)
      | inr m ↦ h.spans i m
    ];
  }

  basis_grown : (n : ℕ) (rows : ℕ → ℕ → ℕ) (r k : ℕ) → ((i j : ℕ) → rows i j < size) → IsBasis mul n rows r k → (IsCombination mul n rows r (rows r) → ⊥) → IsBasis mul n rows (suc r) (suc k)
  basis_grown n rows r k b h d =
      let p : ℕ → ℕ = put h.picks k r in
      let old : ℕ → ℕ → ℕ = λ t. rows (h.picks t) in
      let new : ℕ → ℕ → ℕ = λ t. rows (p t) in
      record {
        picks = p;
        within = λ t l. elim (eq_or_below t k l) [
          | inl e ↦ let u : p t ≡ r = ap p e ∙ put-same h.picks k r in omega arith
          | inr m ↦
              let u : p t ≡ h.picks t = put-other h.picks k r t (omega arith) in
              let w : h.picks t < r = h.within t m in omega arith
        ];
        fresh = record {
          at_row = λ i l c. elim (eq_or_below i k l) [
            | inl e ↦
                let f : IsCombination mul n new k (new k) = subst (λ (q : ℕ). IsCombination mul n new q (new q)) e c in
                let g : IsCombination mul n old k (rows r) =
                combination_rows old (λ t m j u. picked_before rows h.picks k r t m j)
                (combination_same size mul field (rows r) f (λ j u. ap (λ q. rows q j) (put-same h.picks k r))) in
                d (combination_through size mul field n old k rows r (rows r) (λ t m. combination_row size mul field n rows r b (h.picks t) (h.within t m)) g)
            | inr m ↦ h.fresh.at_row i m
                (combination_rows old (λ t u j w. picked_before rows h.picks k r t (omega arith) j)
                (combination_same size mul field (old i) c (λ j u. picked_before rows h.picks k r i m j)))
          ];
        };
        spans = λ i l. elim (eq_or_below i r l) [
          | inl e ↦ subst (λ (q : ℕ). IsCombination mul n new (suc k) (rows q)) (sym e)
              (combination_same size mul field (rows r) (combination_last size mul field n new k (b (p k))) (λ j u. ap (λ q. rows q j) (put-same h.picks k r)))
          | inr m ↦ combination_more size mul field (combination_rows new (λ t u j w. sym (picked_before rows h.picks k r t u j)) (h.spans i m))
        ];
      }

  -- as many rows as the rank are independent and span all rows
  pub basis : (n : ℕ) (rows : ℕ → ℕ → ℕ) (r : ℕ) → ((i j : ℕ) → rows i j < size) → IsBasis mul n rows r (rank size mul n rows r)
  basis n rows zero b = subst (λ (k : ℕ). IsBasis mul n rows 0 k) (sym (rank_zero size mul field n rows)) (record {
    picks = λ t. 0;
    within = λ t l. absurd (omega arith);
    fresh = record { at_row = λ i l c. omega arith };
    spans = λ i l. absurd (omega arith);
  })
  basis n rows (suc r) b =
      let h : IsBasis mul n rows r (rank size mul n rows r) = basis n rows r b in
      elim (cases_rank size mul field n rows r) [
        | inl c ↦ subst (λ (k : ℕ). IsBasis mul n rows (suc r) k) (sym c.1) (basis_kept n rows r (rank size mul n rows r) h c.0)
        | inr c ↦ subst (λ (k : ℕ). IsBasis mul n rows (suc r) k) (sym (c.1 ∙ add-one (rank size mul n rows r))) (basis_grown n rows r (rank size mul n rows r) b h c.0)
      ]

  -- rows in the span of others have no greater rank
  pub rank-le-span : (n : ℕ) (rows : ℕ → ℕ → ℕ) (r : ℕ) (us : ℕ → ℕ → ℕ) (s : ℕ) → ((i j : ℕ) → rows i j < size) → ((i j : ℕ) → us i j < size)
      → ((i : ℕ) → i < r → IsCombination mul n us s (rows i)) → rank size mul n rows r ≤ rank size mul n us s
  rank-le-span n rows r us s b c all =
      let p : IsBasis mul n rows r (rank size mul n rows r) = basis n rows r b in
      let q : IsBasis mul n us s (rank size mul n us s) = basis n us s c in
      exchange_new size mul field n (λ t. us (q.picks t)) (rank size mul n us s) (λ t. rows (p.picks t)) (rank size mul n rows r) p.fresh
      (λ t l. combination_through size mul field n us s (λ t. us (q.picks t)) (rank size mul n us s) (rows (p.picks t)) q.spans (all (p.picks t) (p.within t l)))

  -- equal spans, equal rank
  pub rank_of_span : (n : ℕ) (rows : ℕ → ℕ → ℕ) (r : ℕ) (us : ℕ → ℕ → ℕ) (s : ℕ) → ((i j : ℕ) → rows i j < size) → ((i j : ℕ) → us i j < size)
      → ((i : ℕ) → i < r → IsCombination mul n us s (rows i)) → ((i : ℕ) → i < s → IsCombination mul n rows r (us i)) → rank size mul n rows r ≡ rank size mul n us s
  rank_of_span n rows r us s b c all back = omega (arith, rank-le-span n rows r us s b c all, rank-le-span n us s rows r c b back)

  -- rank is the greatest number of independent rows: there are so many ..
  pub rank_reached : (n : ℕ) (rows : ℕ → ℕ → ℕ) (r : ℕ) → ((i j : ℕ) → rows i j < size)
      → (picks : ℕ → ℕ) × ((t : ℕ) → t < rank size mul n rows r → picks t < r) × AreIndependent size mul n (λ t. rows (picks t)) (rank size mul n rows r)
  rank_reached n rows r b =
      let p : IsBasis mul n rows r (rank size mul n rows r) = basis n rows r b in
      (p.picks, p.within, independent_of_new size mul field n (λ t. rows (p.picks t)) (rank size mul n rows r) (λ i j. b (p.picks i) j) p.fresh)

  -- .. and no more
  pub rank_greatest : (n : ℕ) (rows : ℕ → ℕ → ℕ) (r : ℕ) → ((i j : ℕ) → rows i j < size) → (picks : ℕ → ℕ) (k : ℕ) → ((t : ℕ) → t < k → picks t < r)
      → AreIndependent size mul n (λ t. rows (picks t)) k → k ≤ rank size mul n rows r
  rank_greatest n rows r b picks k within h =
      let e : rank size mul n (λ t. rows (picks t)) k ≡ k = rank_of_new size mul field n (λ t. rows (picks t)) k (new_of_independent size mul field n (λ t. rows (picks t)) k (λ i j. b (picks i) j) h) in
      let f : rank size mul n (λ t. rows (picks t)) k ≤ rank size mul n rows r =
      rank-le-span n (λ t. rows (picks t)) k rows r (λ i j. b (picks i) j) b (λ t l. combination_row size mul field n rows r b (picks t) (within t l)) in
      omega arith

  -- what the span of rows spans, the span of the rows that they are combinations of spans too; and back
  pub span_of_span : (n : ℕ) (rows : ℕ → ℕ → ℕ) (r : ℕ) (us : ℕ → ℕ → ℕ) (s : ℕ) (v : ℕ → ℕ)
      → ((i : ℕ) → i < r → IsCombination mul n us s (rows i)) → ((i : ℕ) → i < s → IsCombination mul n rows r (us i)) → IsCombination mul n rows r v ↔ IsCombination mul n us s v
  span_of_span n rows r us s v all back = (combination_through size mul field n rows r us s v all, combination_through size mul field n us s rows r v back)

  -- Row operations. The rows after: row k with x times row i added, where i is another row
  abbrev pub add_row : ℕ → (ℕ → ℕ → ℕ) → ℕ → ℕ → ℕ → ℕ → ℕ
  add_row x rows k i q j = cond (eqb q k) (bit_xor (rows k j) (mul x (rows i j))) (rows q j)

  add_row-same : (x : ℕ) (rows : ℕ → ℕ → ℕ) (k i j : ℕ) → add_row x rows k i k j ≡ bit_xor (rows k j) (mul x (rows i j))
  add_row-same x rows k i j = cond-true (eqb k k) (bit_xor (rows k j) (mul x (rows i j))) (rows k j) (eq-eqb k k refl)

  add_row-other : (x : ℕ) (rows : ℕ → ℕ → ℕ) (k i q j : ℕ) → q ≢ k → add_row x rows k i q j ≡ rows q j
  add_row-other x rows k i q j d = cond-false (eqb q k) (bit_xor (rows k j) (mul x (rows i j))) (rows q j) (ne_eqb q k d)

  pub add_row-below : (x : ℕ) (rows : ℕ → ℕ → ℕ) (k i : ℕ) → ((i j : ℕ) → rows i j < size) → (q j : ℕ) → add_row x rows k i q j < size
  add_row-below x rows k i b q j = elim (cases_eq q k) [
    | inl e ↦ subst (λ (y : ℕ). y < size) (sym (cond-true (eqb q k) (bit_xor (rows k j) (mul x (rows i j))) (rows q j) (eq-eqb q k e))) (xor_below size mul field (rows k j) (mul x (rows i j)) (b k j) (field.mul_below x (rows i j)))
    | inr d ↦ subst (λ (y : ℕ). y < size) (sym (add_row-other x rows k i q j d)) (b q j)
  ]

  add_row-in : (n : ℕ) (rows : ℕ → ℕ → ℕ) (r x k i : ℕ) → ((i j : ℕ) → rows i j < size) → k < r → i < r → (q : ℕ) → q < r → IsCombination mul n rows r (add_row x rows k i q)
  add_row-in n rows r x k i b lk li q lq = elim (cases_eq q k) [
    | inl e ↦ combination_same size mul field (add_row x rows k i q)
        (combination_xor size mul field (combination_row size mul field n rows r b k lk) (combination_scale size mul field x (combination_row size mul field n rows r b i li)))
        (λ j l. sym (cond-true (eqb q k) (bit_xor (rows k j) (mul x (rows i j))) (rows q j) (eq-eqb q k e)))
    | inr d ↦ combination_same size mul field (add_row x rows k i q) (combination_row size mul field n rows r b q lq) (λ j l. sym (add_row-other x rows k i q j d))
  ]

  add_row-back : (n : ℕ) (rows : ℕ → ℕ → ℕ) (r x k i : ℕ) → ((i j : ℕ) → rows i j < size) → k < r → i < r → i ≢ k → (q : ℕ) → q < r → IsCombination mul n (add_row x rows k i) r (rows q)
  add_row-back n rows r x k i b lk li ne q lq =
      let row : (m : ℕ) → m < r → IsCombination mul n (add_row x rows k i) r (add_row x rows k i m) = combination_row size mul field n (add_row x rows k i) r (add_row-below x rows k i b) in
      let kept : (m : ℕ) → m < r → m ≢ k → IsCombination mul n (add_row x rows k i) r (rows m) = λ m lm d. combination_same size mul field (rows m) (row m lm) (λ j l. add_row-other x rows k i m j d) in
      elim (cases_eq q k) [
        | inl e ↦ subst (λ (m : ℕ). IsCombination mul n (add_row x rows k i) r (rows m)) (sym e)
            (combination_front size mul field (rows k) (λ j. mul x (rows i j)) (combination_scale size mul field x (kept i li ne))
            (combination_same size mul field (λ j. bit_xor (rows k j) (mul x (rows i j))) (row k lk) (λ j l. add_row-same x rows k i j)))
        | inr d ↦ kept q lq d
      ]

  pub add_row-rank : (n : ℕ) (rows : ℕ → ℕ → ℕ) (r x k i : ℕ) → ((i j : ℕ) → rows i j < size) → k < r → i < r → i ≢ k → rank size mul n (add_row x rows k i) r ≡ rank size mul n rows r
  add_row-rank n rows r x k i b lk li ne =
      rank_of_span n (add_row x rows k i) r rows r (add_row-below x rows k i b) b (add_row-in n rows r x k i b lk li) (add_row-back n rows r x k i b lk li ne)

  pub add_row-span : (n : ℕ) (rows : ℕ → ℕ → ℕ) (r x k i : ℕ) (v : ℕ → ℕ) → ((i j : ℕ) → rows i j < size) → k < r → i < r → i ≢ k → IsCombination mul n (add_row x rows k i) r v ↔ IsCombination mul n rows r v
  add_row-span n rows r x k i v b lk li ne =
      span_of_span n (add_row x rows k i) r rows r v (add_row-in n rows r x k i b lk li) (add_row-back n rows r x k i b lk li ne)
