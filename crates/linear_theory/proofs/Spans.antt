-- Combinations of rows, and the test that decides them
use Rattle.std.proofs.lemmas.Bool.{cases_Bool, or_cases, or_left, or_right, and_parts, and_from, eqb-true, eq-eqb, ne_eqb, cond-true, cond-false, both_ways}
use Rattle.std.proofs.Common.{◌≡◌, ◌≢◌, ◌⊎◌, ◌↔◌, ℕ, zero, suc, ◌<◌, Bool, true, false, eqb, sym, ◌∙◌, ap, subst, refl, inl, inr, arith, bit_xor}
use Rattle.std.specs.Int.Bits.{xor_assoc, xor_self, xor_zero_r}
use Rattle.field_theory.specs.Field.{IsField}
use Rattle.field_theory.specs.Sums.{any_below, all_below, put}
use Rattle.linear_theory.specs.Linear.{combine, IsCombination, in_span}
use Rattle.field_theory.proofs.Sums.{sum-same, sum-xor, sum-zero, eq_or_below, zero-mul, xor_mul, mul-sum, one_mul-mul}

pub put-same : (f : ℕ → ℕ) (k x : ℕ) → put f k x k ≡ x
put-same f k x = cond-true (eqb k k) x (f k) (eq-eqb k k refl)

pub put-other : (f : ℕ → ℕ) (k x i : ℕ) → i ≢ k → put f k x i ≡ f i
put-other f k x i d = cond-false (eqb i k) x (f i) (ne_eqb i k d)

pub xor_back : (a b : ℕ) → bit_xor (bit_xor a b) b ≡ a
xor_back a b = xor_assoc a b b ∙ ap (λ x. bit_xor a x) (xor_self b) ∙ xor_zero_r a

pub any_below-yes : (n : ℕ) (p : ℕ → Bool) → any_below n p ≡ true → (i : ℕ) × (i < n) × (p i ≡ true)
any_below-yes zero p h = absurd (both_ways false refl h)
any_below-yes (suc n) p h = any_below-yes_step n p (any_below-yes n p) (or_cases (any_below n p) (p n) h)
  where
    any_below-yes_step : (n : ℕ) (p : ℕ → Bool) → (any_below n p ≡ true → (i : ℕ) × (i < n) × (p i ≡ true)) → (any_below n p ≡ true) ⊎ (p n ≡ true) → (i : ℕ) × (i < suc n) × (p i ≡ true)
    any_below-yes_step n p ih (inl e) = let w : (i : ℕ) × (i < n) × (p i ≡ true) = ih e in (w.0, omega arith, w.2)
    any_below-yes_step n p ih (inr e) = (n, omega arith, e)

pub any_below-from : (n : ℕ) (p : ℕ → Bool) (i : ℕ) → i < n → p i ≡ true → any_below n p ≡ true
any_below-from zero p i l e = absurd (omega arith)
any_below-from (suc n) p i l e =
    elim (eq_or_below i n l) [
      | inl d ↦ or_right (any_below n p) (p n) (ap p (sym d) ∙ e)
      | inr m ↦ or_left (any_below n p) (p n) (any_below-from n p i m e)
    ]

pub all_below-yes : (n : ℕ) (p : ℕ → Bool) → all_below n p ≡ true → (i : ℕ) → i < n → p i ≡ true
all_below-yes zero p h i l = absurd (omega arith)
all_below-yes (suc n) p h i l =
    let both : (all_below n p ≡ true) × (p n ≡ true) = and_parts (all_below n p) (p n) h in
    elim (eq_or_below i n l) [
      | inl d ↦ ap p d ∙ both.1
      | inr m ↦ all_below-yes n p both.0 i m
    ]

pub all_below-from : (n : ℕ) (p : ℕ → Bool) → ((i : ℕ) → i < n → p i ≡ true) → all_below n p ≡ true
all_below-from zero p h = refl
all_below-from (suc n) p h = and_from (all_below n p) (p n) (all_below-from n p (λ i l. h i (omega arith))) (h n (omega arith))

module _ (size : ℕ) (mul : ℕ → ℕ → ℕ) (field : IsField size mul) where
  pub combination_zero : (n : ℕ) (rows : ℕ → ℕ → ℕ) (r : ℕ) (v : ℕ → ℕ) → ((j : ℕ) → j < n → v j ≡ 0) → IsCombination mul n rows r v
  combination_zero n rows r v h = record {
    factors = λ i. 0;
    is_sum = λ j l. h j l ∙ sym (sum-zero r (λ i. mul 0 (rows i j)) (λ i m. zero-mul size mul field (rows i j)));
  }

  pub combination_same : {n : ℕ} {rows : ℕ → ℕ → ℕ} {r : ℕ} {v : ℕ → ℕ} (w : ℕ → ℕ) → IsCombination mul n rows r v → ((j : ℕ) → j < n → v j ≡ w j) → IsCombination mul n rows r w
  combination_same w h e = record { factors = h.factors; is_sum = λ j l. sym (e j l) ∙ h.is_sum j l }

  pub combination_xor : {n : ℕ} {rows : ℕ → ℕ → ℕ} {r : ℕ} {v w : ℕ → ℕ} → IsCombination mul n rows r v → IsCombination mul n rows r w → IsCombination mul n rows r (λ j. bit_xor (v j) (w j))
  combination_xor {rows = rows} {r = r} {v = v} {w = w} h k = record {
    factors = λ i. bit_xor (h.factors i) (k.factors i);
    is_sum = λ j l.
        ap (λ x. bit_xor x (w j)) (h.is_sum j l) ∙ ap (λ x. bit_xor (combine mul r h.factors rows j) x) (k.is_sum j l)
        ∙ sym (sum-xor r (λ i. mul (h.factors i) (rows i j)) (λ i. mul (k.factors i) (rows i j)))
        ∙ sum-same r (λ i. bit_xor (mul (h.factors i) (rows i j)) (mul (k.factors i) (rows i j))) (λ i. mul (bit_xor (h.factors i) (k.factors i)) (rows i j))
        (λ i m. sym (xor_mul size mul field (h.factors i) (k.factors i) (rows i j)));
  }

  pub combination_scale : (x : ℕ) {n : ℕ} {rows : ℕ → ℕ → ℕ} {r : ℕ} {v : ℕ → ℕ} → IsCombination mul n rows r v → IsCombination mul n rows r (λ j. mul x (v j))
  combination_scale x {rows = rows} {r = r} {v = v} h = record {
    factors = λ i. mul x (h.factors i);
    is_sum = λ j l.
        ap (λ y. mul x y) (h.is_sum j l) ∙ mul-sum size mul field x r (λ i. mul (h.factors i) (rows i j))
        ∙ sum-same r (λ i. mul x (mul (h.factors i) (rows i j))) (λ i. mul (mul x (h.factors i)) (rows i j))
        (λ i m. sym (field.mul_assoc x (h.factors i) (rows i j)));
  }

  pub combination_join : (x : ℕ) {n : ℕ} {rows : ℕ → ℕ → ℕ} {r : ℕ} (v : ℕ → ℕ) → IsCombination mul n rows r (λ j. bit_xor (v j) (mul x (rows r j))) → IsCombination mul n rows (suc r) v
  combination_join x {rows = rows} {r = r} v h = record {
    factors = put h.factors r x;
    is_sum = λ j l.
        sym (xor_back (v j) (mul x (rows r j)))
        ∙ ap (λ y. bit_xor y (mul x (rows r j))) (h.is_sum j l)
        ∙ ap (λ y. bit_xor y (mul x (rows r j))) (sum-same r (λ i. mul (h.factors i) (rows i j)) (λ i. mul (put h.factors r x i) (rows i j))
        (λ i m. ap (λ y. mul y (rows i j)) (sym (put-other h.factors r x i (omega arith)))))
        ∙ ap (λ y. bit_xor (combine mul r (put h.factors r x) rows j) (mul y (rows r j))) (sym (put-same h.factors r x));
  }

  pub combination_split : {n : ℕ} {rows : ℕ → ℕ → ℕ} {r : ℕ} {v : ℕ → ℕ} → IsCombination mul n rows (suc r) v → (x : ℕ) × (x < size) × IsCombination mul n rows r (λ j. bit_xor (v j) (mul x (rows r j)))
  combination_split {rows = rows} {r = r} {v = v} h = (
    mul 1 (h.factors r),
    field.mul_below 1 (h.factors r),
    record {
      factors = h.factors;
      is_sum = λ j l.
          ap (λ y. bit_xor (v j) y) (one_mul-mul size mul field (h.factors r) (rows r j))
          ∙ ap (λ y. bit_xor y (mul (h.factors r) (rows r j))) (h.is_sum j l)
          ∙ xor_back (combine mul r h.factors rows j) (mul (h.factors r) (rows r j));
    },
  )

  pub combination_more : {n : ℕ} {rows : ℕ → ℕ → ℕ} {r : ℕ} {v : ℕ → ℕ} → IsCombination mul n rows r v → IsCombination mul n rows (suc r) v
  combination_more {rows = rows} {r = r} {v = v} h =
      combination_join 0 v (combination_same (λ j. bit_xor (v j) (mul 0 (rows r j))) h
      (λ j l. sym (ap (λ y. bit_xor (v j) y) (zero-mul size mul field (rows r j)) ∙ xor_zero_r (v j))))

  pub combination_last : (n : ℕ) (rows : ℕ → ℕ → ℕ) (r : ℕ) → ((j : ℕ) → rows r j < size) → IsCombination mul n rows (suc r) (rows r)
  combination_last n rows r b =
      combination_join 1 (rows r) (combination_zero n rows r (λ j. bit_xor (rows r j) (mul 1 (rows r j)))
      (λ j l. ap (λ y. bit_xor (rows r j) y) (field.one_mul (rows r j) (b j)) ∙ xor_self (rows r j)))

  pub combination_row : (n : ℕ) (rows : ℕ → ℕ → ℕ) (r : ℕ) → ((i j : ℕ) → rows i j < size) → (k : ℕ) → k < r → IsCombination mul n rows r (rows k)
  combination_row n rows zero b k l = absurd (omega arith)
  combination_row n rows (suc r) b k l =
      elim (eq_or_below k r l) [
        | inl e ↦ subst (λ (i : ℕ). IsCombination mul n rows (suc r) (rows i)) (sym e) (combination_last n rows r (b r))
        | inr m ↦ combination_more (combination_row n rows r b k m)
      ]

  pub combination_fewer : {n : ℕ} {rows : ℕ → ℕ → ℕ} {r : ℕ} {v : ℕ → ℕ} → IsCombination mul (suc n) rows r v → IsCombination mul n rows r v
  combination_fewer h = record { factors = h.factors; is_sum = λ j l. h.is_sum j (omega arith) }

  -- what is a combination of combinations is a combination
  pub combination_through : (n : ℕ) (rows : ℕ → ℕ → ℕ) (r : ℕ) (us : ℕ → ℕ → ℕ) (s : ℕ) (v : ℕ → ℕ) → ((i : ℕ) → i < r → IsCombination mul n us s (rows i)) → IsCombination mul n rows r v → IsCombination mul n us s v
  combination_through n rows zero us s v all h = combination_zero n us s v h.is_sum
  combination_through n rows (suc r) us s v all h =
      let parts : (x : ℕ) × (x < size) × IsCombination mul n rows r (λ j. bit_xor (v j) (mul x (rows r j))) = combination_split h in
      let front : IsCombination mul n us s (λ j. bit_xor (v j) (mul parts.0 (rows r j))) =
      combination_through n rows r us s (λ j. bit_xor (v j) (mul parts.0 (rows r j))) (λ i l. all i (omega arith)) parts.2 in
      let last : IsCombination mul n us s (λ j. mul parts.0 (rows r j)) = combination_scale parts.0 (all r (omega arith)) in
      combination_same v (combination_xor front last) (λ j l. xor_back (v j) (mul parts.0 (rows r j)))

  -- `in_span` decides `IsCombination`
  pub in_span-yes : (n : ℕ) (rows : ℕ → ℕ → ℕ) (r : ℕ) (v : ℕ → ℕ) → in_span size mul n rows r v ≡ true → IsCombination mul n rows r v
  unfolding in_span
  in_span-yes n rows zero v h = combination_zero n rows 0 v (λ j l. eqb-true (v j) 0 (all_below-yes n (λ j. eqb (v j) 0) h j l))
  in_span-yes n rows (suc r) v h =
      let w : (x : ℕ) × (x < size) × (in_span size mul n rows r (λ j. bit_xor (v j) (mul x (rows r j))) ≡ true) =
      any_below-yes size (λ c. in_span size mul n rows r (λ j. bit_xor (v j) (mul c (rows r j)))) h in
      combination_join w.0 v (in_span-yes n rows r (λ j. bit_xor (v j) (mul w.0 (rows r j))) w.2)

  pub in_span-from : (n : ℕ) (rows : ℕ → ℕ → ℕ) (r : ℕ) (v : ℕ → ℕ) → IsCombination mul n rows r v → in_span size mul n rows r v ≡ true
  unfolding in_span
  in_span-from n rows zero v h = all_below-from n (λ j. eqb (v j) 0) (λ j l. eq-eqb (v j) 0 (h.is_sum j l))
  in_span-from n rows (suc r) v h =
      let parts : (x : ℕ) × (x < size) × IsCombination mul n rows r (λ j. bit_xor (v j) (mul x (rows r j))) = combination_split h in
      any_below-from size (λ c. in_span size mul n rows r (λ j. bit_xor (v j) (mul c (rows r j)))) parts.0 parts.1
      (in_span-from n rows r (λ j. bit_xor (v j) (mul parts.0 (rows r j))) parts.2)

  pub in_span-decides : (n : ℕ) (rows : ℕ → ℕ → ℕ) (r : ℕ) (v : ℕ → ℕ) → (in_span size mul n rows r v ≡ true) ↔ IsCombination mul n rows r v
  in_span-decides n rows r v = (in_span-yes n rows r v, in_span-from n rows r v)

  pub cases_span : (n : ℕ) (rows : ℕ → ℕ → ℕ) (r : ℕ) (v : ℕ → ℕ) → IsCombination mul n rows r v ⊎ (IsCombination mul n rows r v → ⊥)
  cases_span n rows r v = elim (cases_Bool (in_span size mul n rows r v)) [
    | inl e ↦ inl (in_span-yes n rows r v e)
    | inr e ↦ inr (λ h. both_ways (in_span size mul n rows r v) e (in_span-from n rows r v h))
  ]
