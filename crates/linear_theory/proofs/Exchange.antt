-- Independent rows, the exchange lemma, and that the rank is the greatest number of independent rows
use Rattle.std.proofs.lemmas.Bool.{cases_eq, cases_lt}
use Rattle.std.proofs.Common.{◌≡◌, ◌⊎◌, ◌↔◌, ℕ, zero, suc, ◌+◌, ◌<◌, ◌≤◌, sym, ◌∙◌, ap, subst, inl, inr, arith, bit_xor}
use Rattle.std.specs.Int.Bits.{xor_self, xor_zero_r}
use Rattle.field_theory.specs.Field.{IsField}
use Rattle.field_theory.specs.Sums.{xor_sum, put}
use Rattle.linear_theory.specs.Linear.{AreNew, combine, IsCombination, AreIndependent, rank}
use Rattle.field_theory.proofs.Sums.{xor_same, sum-same, sum-swap, mul-sum, sum-mul, eq_or_below, zero_below, zero-mul, one_mul-mul}
use Rattle.linear_theory.proofs.Spans.{put-same, put-other}
use Rattle.linear_theory.proofs.Ranks.{combination_divide, rank_same, rank_more, rank_zero, rank-le-rows, rank_more-le, rank-le-columns}

-- a vector for each number below r, picked from what each number has
choose_at : (r : ℕ) (Q : (ℕ → ℕ) → Type 0) (P : ℕ → (ℕ → ℕ) → Type 0) → Q (λ k. 0)
    → ((i : ℕ) → i < r → (f : ℕ → ℕ) × Q f × P i f) → (i : ℕ) → (i < r) ⊎ (r ≤ i) → (f : ℕ → ℕ) × Q f × (i < r → P i f)
choose_at r Q P q h i (inl l) = let w : (f : ℕ → ℕ) × Q f × P i f = h i l in (w.0, w.1, λ m. w.2)
choose_at r Q P q h i (inr m) = (λ k. 0, q, λ l. absurd (omega arith))

pub choose_vectors : (r : ℕ) (Q : (ℕ → ℕ) → Type 0) (P : ℕ → (ℕ → ℕ) → Type 0) → Q (λ k. 0)
    → ((i : ℕ) → i < r → (f : ℕ → ℕ) × Q f × P i f) → (a : ℕ → ℕ → ℕ) × ((i : ℕ) → Q (a i)) × ((i : ℕ) → i < r → P i (a i))
choose_vectors r Q P q h =
    (λ i. (choose_at r Q P q h i (cases_lt i r)).0, λ i. (choose_at r Q P q h i (cases_lt i r)).1, λ i l. (choose_at r Q P q h i (cases_lt i r)).2 l)

pub combination_rows : {mul : ℕ → ℕ → ℕ} {n : ℕ} {rows : ℕ → ℕ → ℕ} {r : ℕ} {v : ℕ → ℕ} (others : ℕ → ℕ → ℕ) → ((i : ℕ) → i < r → (j : ℕ) → j < n → rows i j ≡ others i j) → IsCombination mul n rows r v → IsCombination mul n others r v
combination_rows {mul = mul} {rows = rows} {r = r} others e h = record {
  factors = h.factors;
  is_sum = λ j l. h.is_sum j l ∙ sum-same r (λ i. mul (h.factors i) (rows i j)) (λ i. mul (h.factors i) (others i j)) (λ i m. ap (λ x. mul (h.factors i) x) (e i m j l));
}

module _ (size : ℕ) (mul : ℕ → ℕ → ℕ) (field : IsField size mul) where
  -- factors brought below size give the same combination
  pub one_below_symbols : (r : ℕ) (c : ℕ → ℕ) (rows : ℕ → ℕ → ℕ) (j : ℕ) → combine mul r (λ i. mul 1 (c i)) rows j ≡ combine mul r c rows j
  one_below_symbols r c rows j = sum-same r (λ i. mul (mul 1 (c i)) (rows i j)) (λ i. mul (c i) (rows i j)) (λ i l. one_mul-mul size mul field (c i) (rows i j))

  pub rank_of_new : (n : ℕ) (rows : ℕ → ℕ → ℕ) (r : ℕ) → AreNew mul n rows r → rank size mul n rows r ≡ r
  rank_of_new n rows zero h = rank_zero size mul field n rows
  rank_of_new n rows (suc r) h =
      let e : rank size mul n rows r ≡ r = rank_of_new n rows r (record { at_row = λ i l. h.at_row i (omega arith) }) in
      let f : rank size mul n rows (suc r) ≡ rank size mul n rows r + 1 = rank_more size mul field n rows r (h.at_row r (omega arith)) in
      omega arith

  pub new_of_rank : (n : ℕ) (rows : ℕ → ℕ → ℕ) (r : ℕ) → rank size mul n rows r ≡ r → AreNew mul n rows r
  new_of_rank n rows zero e = record { at_row = λ i l h. omega arith }
  new_of_rank n rows (suc r) e =
      let low : rank size mul n rows r ≤ r = rank-le-rows size mul field n rows r in
      let up : rank size mul n rows (suc r) ≤ rank size mul n rows r + 1 = rank_more-le size mul field n rows r in
      let before : AreNew mul n rows r = new_of_rank n rows r (omega arith) in
      record {
        at_row = λ i l h. elim (eq_or_below i r l) [
          | inl d ↦
              let g : IsCombination mul n rows r (rows r) = subst (λ (k : ℕ). IsCombination mul n rows k (rows k)) d h in
              let f : rank size mul n rows (suc r) ≡ rank size mul n rows r = rank_same size mul field n rows r g in
              omega arith
          | inr m ↦ before.at_row i m h
        ];
      }

  -- combinations that do not use the last row
  pub combine_put : (rows : ℕ → ℕ → ℕ) (r : ℕ) (c : ℕ → ℕ) (x j : ℕ) → combine mul (suc r) (put c r x) rows j ≡ bit_xor (combine mul r c rows j) (mul x (rows r j))
  combine_put rows r c x j =
      ap (λ y. bit_xor y (mul (put c r x r) (rows r j)))
      (sum-same r (λ i. mul (put c r x i) (rows i j)) (λ i. mul (c i) (rows i j)) (λ i m. ap (λ y. mul y (rows i j)) (put-other c r x i (omega arith))))
      ∙ ap (λ y. bit_xor (combine mul r c rows j) (mul y (rows r j))) (put-same c r x)

  pub put_below : (r : ℕ) (c : ℕ → ℕ) (x : ℕ) → x < size → ((i : ℕ) → i < r → c i < size) → (i : ℕ) → i < suc r → put c r x i < size
  put_below r c x l b i m = elim (eq_or_below i r m) [
    | inl e ↦ subst (λ (k : ℕ). put c r x k < size) (sym e) (subst (λ (k : ℕ). k < size) (sym (put-same c r x)) l)
    | inr u ↦ subst (λ (k : ℕ). k < size) (sym (put-other c r x i (omega arith))) (b i u)
  ]

  pub independent_fewer : (n : ℕ) (rows : ℕ → ℕ → ℕ) (r : ℕ) → AreIndependent size mul n rows (suc r) → AreIndependent size mul n rows r
  independent_fewer n rows r h = record {
    only_zero = λ c b z i l.
        sym (put-other c r 0 i (omega arith))
        ∙ h.only_zero (put c r 0) (put_below r c 0 (zero_below size mul field) b)
        (λ j m. combine_put rows r c 0 j ∙ ap (λ y. bit_xor (combine mul r c rows j) y) (zero-mul size mul field (rows r j)) ∙ xor_zero_r (combine mul r c rows j) ∙ z j m)
        i (omega arith);
  }

  pub independent_last : (n : ℕ) (rows : ℕ → ℕ → ℕ) (r : ℕ) → ((j : ℕ) → rows r j < size) → AreIndependent size mul n rows (suc r) → IsCombination mul n rows r (rows r) → ⊥
  independent_last n rows r b h k =
      let c : ℕ → ℕ = λ i. mul 1 (k.factors i) in
      let e : put c r 1 r ≡ 0 = h.only_zero (put c r 1) (put_below r c 1 field.one_below (λ i l. field.mul_below 1 (k.factors i)))
      (λ j m.
      combine_put rows r c 1 j
      ∙ ap (λ y. bit_xor (combine mul r c rows j) y) (field.one_mul (rows r j) (b j))
      ∙ ap (λ y. bit_xor y (rows r j)) (sum-same r (λ i. mul (c i) (rows i j)) (λ i. mul (k.factors i) (rows i j)) (λ i l. one_mul-mul size mul field (k.factors i) (rows i j)) ∙ sym (k.is_sum j m))
      ∙ xor_self (rows r j))
      r (omega arith) in
      let f : put c r 1 r ≡ 1 = put-same c r 1 in
      omega arith

  pub new_of_independent : (n : ℕ) (rows : ℕ → ℕ → ℕ) (r : ℕ) → ((i j : ℕ) → rows i j < size) → AreIndependent size mul n rows r → AreNew mul n rows r
  new_of_independent n rows zero b h = record { at_row = λ i l k. omega arith }
  new_of_independent n rows (suc r) b h =
      let before : AreNew mul n rows r = new_of_independent n rows r b (independent_fewer n rows r h) in
      record {
        at_row = λ i l k. elim (eq_or_below i r l) [
          | inl d ↦ independent_last n rows r (b r) h (subst (λ (m : ℕ). IsCombination mul n rows m (rows m)) d k)
          | inr m ↦ before.at_row i m k
        ];
      }

  pub independent_of_new : (n : ℕ) (rows : ℕ → ℕ → ℕ) (r : ℕ) → ((i j : ℕ) → rows i j < size) → AreNew mul n rows r → AreIndependent size mul n rows r
  independent_of_new n rows zero b h = record { only_zero = λ c s z i l. absurd (omega arith) }
  independent_of_new n rows (suc r) b h =
      let before : AreIndependent size mul n rows r = independent_of_new n rows r b (record { at_row = λ i l. h.at_row i (omega arith) }) in
      record {
        only_zero = λ c s z.
            let e : c r ≡ 0 = independent_of_new_last c s z in
            λ i l. elim (eq_or_below i r l) [
              | inl d ↦ ap c d ∙ e
              | inr m ↦ before.only_zero c (λ k u. s k (omega arith))
                  (λ j u. sym (ap (λ y. bit_xor (combine mul r c rows j) (mul y (rows r j))) e ∙ ap (λ y. bit_xor (combine mul r c rows j) y) (zero-mul size mul field (rows r j)) ∙ xor_zero_r (combine mul r c rows j)) ∙ z j u)
                  i m
            ];
      }
    where
      independent_of_new_last : (c : ℕ → ℕ) → ((i : ℕ) → i < suc r → c i < size) → ((j : ℕ) → j < n → combine mul (suc r) c rows j ≡ 0) → c r ≡ 0
      independent_of_new_last c s z = elim (cases_eq (c r) 0) [
        | inl e ↦ e
        | inr d ↦ absurd (h.at_row r (omega arith) (combination_divide size mul field (c r) (rows r) (s r (omega arith)) d (b r)
            (record { factors = c; is_sum = λ j l. sym (xor_same (combine mul r c rows j) (mul (c r) (rows r j)) (z j l)) })))
      ]

  -- r rows are independent exactly where their rank is r
  pub independent_iff_rank : (n : ℕ) (rows : ℕ → ℕ → ℕ) (r : ℕ) → ((i j : ℕ) → rows i j < size) → AreIndependent size mul n rows r ↔ (rank size mul n rows r ≡ r)
  independent_iff_rank n rows r b =
      (λ h. rank_of_new n rows r (new_of_independent n rows r b h), λ e. independent_of_new n rows r b (new_of_rank n rows r e))

  -- a combination of combinations, by its factors
  combination_of_factors : (n : ℕ) (us : ℕ → ℕ → ℕ) (s : ℕ) (ws a : ℕ → ℕ → ℕ) (i : ℕ) → ((l : ℕ) → l < suc i → (j : ℕ) → j < n → ws l j ≡ combine mul s (a l) us j)
      → IsCombination mul s a i (a i) → IsCombination mul n ws i (ws i)
  combination_of_factors n us s ws a i e h = record {
    factors = h.factors;
    is_sum = λ j m.
        e i (omega arith) j m
        ∙ sum-same s (λ k. mul (a i k) (us k j)) (λ k. xor_sum i (λ l. mul (mul (h.factors l) (a l k)) (us k j)))
        (λ k u. ap (λ y. mul y (us k j)) (h.is_sum k u) ∙ sum-mul size mul field i (λ l. mul (h.factors l) (a l k)) (us k j))
        ∙ sum-swap s i (λ k l. mul (mul (h.factors l) (a l k)) (us k j))
        ∙ sum-same i (λ l. xor_sum s (λ k. mul (mul (h.factors l) (a l k)) (us k j))) (λ l. mul (h.factors l) (ws l j))
        (λ l u.
        sum-same s (λ k. mul (mul (h.factors l) (a l k)) (us k j)) (λ k. mul (h.factors l) (mul (a l k) (us k j))) (λ k q. field.mul_assoc (h.factors l) (a l k) (us k j))
        ∙ sym (mul-sum size mul field (h.factors l) s (λ k. mul (a l k) (us k j)))
        ∙ ap (λ y. mul (h.factors l) y) (sym (e l (omega arith) j m)));
  }

  -- the exchange lemma
  pub exchange_new : (n : ℕ) (us : ℕ → ℕ → ℕ) (s : ℕ) (ws : ℕ → ℕ → ℕ) (r : ℕ) → AreNew mul n ws r → ((i : ℕ) → i < r → IsCombination mul n us s (ws i)) → r ≤ s
  exchange_new n us s ws r new all =
      let pick : (a : ℕ → ℕ → ℕ) × ((i k : ℕ) → a i k < size) × ((i : ℕ) → i < r → (j : ℕ) → j < n → ws i j ≡ combine mul s (a i) us j) =
      choose_vectors r (λ f. (k : ℕ) → f k < size) (λ i f. (j : ℕ) → j < n → ws i j ≡ combine mul s f us j) (λ k. zero_below size mul field)
      (λ i l. (
        λ k. mul 1 ((all i l).factors k),
        λ k. field.mul_below 1 ((all i l).factors k),
        λ j m. (all i l).is_sum j m ∙ sum-same s (λ k. mul ((all i l).factors k) (us k j)) (λ k. mul (mul 1 ((all i l).factors k)) (us k j)) (λ k u. sym (one_mul-mul size mul field ((all i l).factors k) (us k j))),
      )) in
      let fresh : AreNew mul s pick.0 r = record { at_row = λ i l h. new.at_row i l (combination_of_factors n us s ws pick.0 i (λ k m. pick.2 k (omega arith)) h) } in
      let e : rank size mul s pick.0 r ≡ r = rank_of_new s pick.0 r fresh in
      let f : rank size mul s pick.0 r ≤ s = rank-le-columns size mul field s pick.0 r pick.1 in
      omega arith

  pub exchange : (n : ℕ) (us : ℕ → ℕ → ℕ) (s : ℕ) (ws : ℕ → ℕ → ℕ) (r : ℕ) → ((i j : ℕ) → ws i j < size) → AreIndependent size mul n ws r → ((i : ℕ) → i < r → IsCombination mul n us s (ws i)) → r ≤ s
  exchange n us s ws r b h all = exchange_new n us s ws r (new_of_independent n ws r b h) all
