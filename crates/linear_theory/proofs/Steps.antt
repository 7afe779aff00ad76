-- The steps of an elimination: what keeps the span, and how a rank is read off rows with pivots
use Rattle.std.proofs.lemmas.Bool.{cases_eq}
use Rattle.std.proofs.Common.{◌≡◌, ◌≢◌, ◌↔◌, ℕ, zero, suc, ◌+◌, ◌<◌, ◌≤◌, sym, ◌∙◌, ap, subst, inl, inr, arith, bit_xor, add-zero, add-suc}
use Rattle.field_theory.specs.Field.{IsField}
use Rattle.linear_theory.specs.Linear.{AreNew, combine, IsCombination, AreIndependent, rank, SameSpan}
use Rattle.field_theory.proofs.Sums.{sum-zero, eq_or_below, zero-mul}
use Rattle.linear_theory.proofs.Spans.{combination_zero, combination_same, combination_xor, combination_scale, combination_row, combination_through, combination_fewer}
use Rattle.linear_theory.proofs.Ranks.{combination_front, combination_divide, rank_same}
use Rattle.linear_theory.proofs.Exchange.{rank_of_new, independent_of_new, one_below_symbols, combination_rows}
use Rattle.linear_theory.proofs.Bases.{rank_of_span}

module _ (size : ℕ) (mul : ℕ → ℕ → ℕ) (field : IsField size mul) where
  pub span_self : (n : ℕ) (rows : ℕ → ℕ → ℕ) (r : ℕ) → ((i j : ℕ) → rows i j < size) → SameSpan mul n rows r rows r
  span_self n rows r b = record { forth = combination_row size mul field n rows r b; back = combination_row size mul field n rows r b }

  pub span_flip : {n : ℕ} {rows : ℕ → ℕ → ℕ} {r : ℕ} {others : ℕ → ℕ → ℕ} {s : ℕ} → SameSpan mul n rows r others s → SameSpan mul n others s rows r
  span_flip h = record { forth = h.back; back = h.forth }

  pub span_trans : {n : ℕ} {rows : ℕ → ℕ → ℕ} {r : ℕ} {others : ℕ → ℕ → ℕ} {s : ℕ} {thirds : ℕ → ℕ → ℕ} {t : ℕ} → SameSpan mul n rows r others s → SameSpan mul n others s thirds t → SameSpan mul n rows r thirds t
  span_trans {n = n} {rows = rows} {r = r} {others = others} {s = s} {thirds = thirds} {t = t} h k = record {
    forth = λ i l. combination_through size mul field n others s thirds t (rows i) k.forth (h.forth i l);
    back = λ i l. combination_through size mul field n others s rows r (thirds i) h.back (k.back i l);
  }

  pub span_fewer : {n : ℕ} {rows : ℕ → ℕ → ℕ} {r : ℕ} {others : ℕ → ℕ → ℕ} {s : ℕ} → SameSpan mul (suc n) rows r others s → SameSpan mul n rows r others s
  span_fewer h = record { forth = λ i l. combination_fewer size mul field (h.forth i l); back = λ i l. combination_fewer size mul field (h.back i l) }

  pub span_rank : {n : ℕ} {rows : ℕ → ℕ → ℕ} {r : ℕ} {others : ℕ → ℕ → ℕ} {s : ℕ} → ((i j : ℕ) → rows i j < size) → ((i j : ℕ) → others i j < size) → SameSpan mul n rows r others s → rank size mul n rows r ≡ rank size mul n others s
  span_rank {n = n} {rows = rows} {r = r} {others = others} {s = s} b c h = rank_of_span size mul field n rows r others s b c h.forth h.back

  pub span_iff : {n : ℕ} {rows : ℕ → ℕ → ℕ} {r : ℕ} {others : ℕ → ℕ → ℕ} {s : ℕ} (v : ℕ → ℕ) → SameSpan mul n rows r others s → IsCombination mul n rows r v ↔ IsCombination mul n others s v
  span_iff {n = n} {rows = rows} {r = r} {others = others} {s = s} v h = (combination_through size mul field n rows r others s v h.forth, combination_through size mul field n others s rows r v h.back)

  -- row k becomes x times itself, where x is not 0
  pub span_after_scale : (n : ℕ) (rows others : ℕ → ℕ → ℕ) (r k x : ℕ) → ((i j : ℕ) → rows i j < size) → ((i j : ℕ) → others i j < size) → k < r → x < size → x ≢ 0
      → ((j : ℕ) → j < n → others k j ≡ mul x (rows k j)) → ((q : ℕ) → q < r → q ≢ k → (j : ℕ) → j < n → others q j ≡ rows q j) → SameSpan mul n rows r others r
  span_after_scale n rows others r k x b c lk lx ne new old = record {
    forth = λ q l. elim (cases_eq q k) [
      | inl e ↦ subst (λ (m : ℕ). IsCombination mul n others r (rows m)) (sym e)
          (combination_divide size mul field x (rows k) lx ne (b k) (combination_same size mul field (λ j. mul x (rows k j)) (combination_row size mul field n others r c k lk) new))
      | inr d ↦ combination_same size mul field (rows q) (combination_row size mul field n others r c q l) (old q l d)
    ];
    back = λ q l. elim (cases_eq q k) [
      | inl e ↦ subst (λ (m : ℕ). IsCombination mul n rows r (others m)) (sym e)
          (combination_same size mul field (others k) (combination_scale size mul field x (combination_row size mul field n rows r b k lk)) (λ j m. sym (new j m)))
      | inr d ↦ combination_same size mul field (others q) (combination_row size mul field n rows r b q l) (λ j m. sym (old q l d j m))
    ];
  }

  -- x times row i is added to row k
  pub span_after_add : (n : ℕ) (rows others : ℕ → ℕ → ℕ) (r k i x : ℕ) → ((i j : ℕ) → rows i j < size) → ((i j : ℕ) → others i j < size) → k < r → i < r → i ≢ k
      → ((j : ℕ) → j < n → others k j ≡ bit_xor (rows k j) (mul x (rows i j))) → ((q : ℕ) → q < r → q ≢ k → (j : ℕ) → j < n → others q j ≡ rows q j) → SameSpan mul n rows r others r
  span_after_add n rows others r k i x b c lk li ne new old =
      let kept : IsCombination mul n others r (rows i) = combination_same size mul field (rows i) (combination_row size mul field n others r c i li) (old i li ne) in
      record {
        forth = λ q l. elim (cases_eq q k) [
          | inl e ↦ subst (λ (m : ℕ). IsCombination mul n others r (rows m)) (sym e)
              (combination_front size mul field (rows k) (λ j. mul x (rows i j)) (combination_scale size mul field x kept)
              (combination_same size mul field (λ j. bit_xor (rows k j) (mul x (rows i j))) (combination_row size mul field n others r c k lk) new))
          | inr d ↦ combination_same size mul field (rows q) (combination_row size mul field n others r c q l) (old q l d)
        ];
        back = λ q l. elim (cases_eq q k) [
          | inl e ↦ subst (λ (m : ℕ). IsCombination mul n rows r (others m)) (sym e)
              (combination_same size mul field (others k) (combination_xor size mul field (combination_row size mul field n rows r b k lk) (combination_scale size mul field x (combination_row size mul field n rows r b i li))) (λ j m. sym (new j m)))
          | inr d ↦ combination_same size mul field (others q) (combination_row size mul field n rows r b q l) (λ j m. sym (old q l d j m))
        ];
      }

  -- a multiple of row k is added to each other row
  pub span_after_sweep : (n : ℕ) (rows others : ℕ → ℕ → ℕ) (r k : ℕ) (x : ℕ → ℕ) → ((i j : ℕ) → rows i j < size) → ((i j : ℕ) → others i j < size) → k < r
      → ((q : ℕ) → q < r → q ≢ k → (j : ℕ) → j < n → others q j ≡ bit_xor (rows q j) (mul (x q) (rows k j))) → ((j : ℕ) → j < n → others k j ≡ rows k j) → SameSpan mul n rows r others r
  span_after_sweep n rows others r k x b c lk new old =
      let kept : IsCombination mul n others r (rows k) = combination_same size mul field (rows k) (combination_row size mul field n others r c k lk) old in
      record {
        forth = λ q l. elim (cases_eq q k) [
          | inl e ↦ subst (λ (m : ℕ). IsCombination mul n others r (rows m)) (sym e) kept
          | inr d ↦ combination_front size mul field (rows q) (λ j. mul (x q) (rows k j)) (combination_scale size mul field (x q) kept)
              (combination_same size mul field (λ j. bit_xor (rows q j) (mul (x q) (rows k j))) (combination_row size mul field n others r c q l) (new q l d))
        ];
        back = λ q l. elim (cases_eq q k) [
          | inl e ↦ subst (λ (m : ℕ). IsCombination mul n rows r (others m)) (sym e)
              (combination_same size mul field (others k) (combination_row size mul field n rows r b k lk) (λ j m. sym (old j m)))
          | inr d ↦ combination_same size mul field (others q) (combination_xor size mul field (combination_row size mul field n rows r b q l) (combination_scale size mul field (x q) (combination_row size mul field n rows r b k lk))) (λ j m. sym (new q l d j m))
        ];
      }

  -- the rows after are the rows before in another order, or some of them again: each is one of the others
  pub span_after_moves : (n : ℕ) (rows others : ℕ → ℕ → ℕ) (r : ℕ) → ((i j : ℕ) → rows i j < size) → ((i j : ℕ) → others i j < size)
      → ((q : ℕ) → q < r → (p : ℕ) × (p < r) × ((j : ℕ) → j < n → rows p j ≡ others q j)) → ((q : ℕ) → q < r → (p : ℕ) × (p < r) × ((j : ℕ) → j < n → others p j ≡ rows q j)) → SameSpan mul n rows r others r
  span_after_moves n rows others r b c from to = record {
    forth = λ q l. combination_same size mul field (rows q) (combination_row size mul field n others r c (to q l).0 (to q l).1) (to q l).2;
    back = λ q l. combination_same size mul field (others q) (combination_row size mul field n rows r b (from q l).0 (from q l).1) (from q l).2;
  }

  -- rows that are new on n columns are new on one more
  pub new_more_columns : {n : ℕ} {rows : ℕ → ℕ → ℕ} {r : ℕ} → AreNew mul n rows r → AreNew mul (suc n) rows r
  new_more_columns h = record { at_row = λ i l k. h.at_row i l (combination_fewer size mul field k) }

  -- a row that is 0 on n columns and not on the next is new there
  pub new_pivot : (n : ℕ) (rows : ℕ → ℕ → ℕ) (r : ℕ) → ((i j : ℕ) → rows i j < size) → AreNew mul n rows r → ((j : ℕ) → j < n → rows r j ≡ 0) → rows r n ≢ 0 → AreNew mul (suc n) rows (suc r)
  new_pivot n rows r b h z d = record {
    at_row = λ i l k. elim (eq_or_below i r l) [
      | inr m ↦ h.at_row i m (combination_fewer size mul field k)
      | inl e ↦ new_pivot_none (subst (λ (q : ℕ). IsCombination mul (suc n) rows q (rows q)) e k)
    ];
  }
    where
      new_pivot_none : IsCombination mul (suc n) rows r (rows r) → ⊥
      new_pivot_none k =
          let c : ℕ → ℕ = λ i. mul 1 (k.factors i) in
          let same : (j : ℕ) → combine mul r c rows j ≡ combine mul r k.factors rows j = λ j. one_below_symbols size mul field r k.factors rows j in
          let indep : AreIndependent size mul n rows r = independent_of_new size mul field n rows r b h in
          let none : (i : ℕ) → i < r → c i ≡ 0 =
          indep.only_zero c (λ i l. field.mul_below 1 (k.factors i)) (λ j l. same j ∙ sym (k.is_sum j (omega arith)) ∙ z j l) in
          d (k.is_sum n (omega arith) ∙ sym (same n) ∙ sum-zero r (λ i. mul (c i) (rows i n)) (λ i l. ap (λ y. mul y (rows i n)) (none i l) ∙ zero-mul size mul field (rows i n)))

  -- the rank of k new rows with rows of 0 below them
  pub rank_of_echelon : (n : ℕ) (rows : ℕ → ℕ → ℕ) (k m : ℕ) → AreNew mul n rows k → ((i : ℕ) → k ≤ i → i < k + m → (j : ℕ) → j < n → rows i j ≡ 0) → rank size mul n rows (k + m) ≡ k
  rank_of_echelon n rows k zero h z = subst (λ (q : ℕ). rank size mul n rows q ≡ k) (sym (add-zero k)) (rank_of_new size mul field n rows k h)
  rank_of_echelon n rows k (suc m) h z =
      let ih : rank size mul n rows (k + m) ≡ k = rank_of_echelon n rows k m h (λ i l u. z i l (omega arith)) in
      let e : rank size mul n rows (suc (k + m)) ≡ rank size mul n rows (k + m) =
      rank_same size mul field n rows (k + m) (combination_zero size mul field n rows (k + m) (rows (k + m)) (z (k + m) (omega arith) (omega arith))) in
      subst (λ (q : ℕ). rank size mul n rows q ≡ k) (sym (add-suc k m)) (e ∙ ih)

  -- the same rows are new where they are the same rows
  pub new_rows : {n : ℕ} {rows : ℕ → ℕ → ℕ} {r : ℕ} (others : ℕ → ℕ → ℕ) → ((i : ℕ) → i < r → (j : ℕ) → j < n → rows i j ≡ others i j) → AreNew mul n rows r → AreNew mul n others r
  new_rows {rows = rows} others e h = record {
    at_row = λ i l k.
        h.at_row i l (combination_rows rows (λ q m j u. sym (e q (omega arith) j u)) (combination_same size mul field (rows i) k (λ j u. sym (e i l j u))));
  }
