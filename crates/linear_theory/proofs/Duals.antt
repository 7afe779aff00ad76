-- n independent vectors of length n, and their dual list
use Rattle.std.proofs.lemmas.Bool.{cases_eq, cond-true, cond-false, eq-eqb, ne_eqb}
use Rattle.std.proofs.Common.{◌≡◌, ℕ, suc, ◌+◌, ◌<◌, ◌≤◌, sym, ◌∙◌, ap, subst, refl, inl, inr, arith, bit_xor, cond, eqb}
use Rattle.std.specs.Int.Bits.{xor_self}
use Rattle.field_theory.specs.Field.{IsField}
use Rattle.field_theory.specs.Sums.{xor_sum, unit}
use Rattle.linear_theory.specs.Linear.{dot, combine, IsCombination, AreIndependent, rank, IsDual}
use Rattle.field_theory.proofs.Sums.{xor_same, sum-same, sum-swap, sum-only, sum-xor, sum_below, mul-sum, sum-mul, sum-zero, xor_below, zero_below, zero-mul, mul-zero, mul_one, one_mul-mul, xor_mul}
use Rattle.linear_theory.proofs.Spans.{put-same, put-other, combination_same, cases_span}
use Rattle.linear_theory.proofs.Ranks.{unit_below, rank_more, rank-le-columns}
use Rattle.linear_theory.proofs.Exchange.{choose_vectors, combination_rows, rank_of_new, new_of_independent}
use Rattle.linear_theory.proofs.Corners.{rank_rows}

pub unit-flip : (i j : ℕ) → unit i j ≡ unit j i
unit-flip i j = elim (cases_eq i j) [
  | inl e ↦ ap (λ (k : ℕ). unit k j) e ∙ ap (λ (k : ℕ). unit j k) (sym e)
  | inr d ↦ put-other (λ k. 0) i 1 j (λ e. d (sym e)) ∙ sym (put-other (λ k. 0) j 1 i d)
]

module _ (size : ℕ) (mul : ℕ → ℕ → ℕ) (field : IsField size mul) where
  pub sum_unit : (n : ℕ) (f : ℕ → ℕ) (j : ℕ) → j < n → xor_sum n (λ k. mul (f k) (unit k j)) ≡ mul (f j) 1
  sum_unit n f j l =
      sum-only n (λ k. mul (f k) (unit k j)) j l
      (λ k m d. ap (λ y. mul (f k) y) (put-other (λ q. 0) k 1 j (λ e. d (sym e))) ∙ mul-zero size mul field (f k))
      ∙ ap (λ y. mul (f j) y) (put-same (λ q. 0) j 1)

  pub unit_sum : (n : ℕ) (f : ℕ → ℕ) (i : ℕ) → i < n → xor_sum n (λ l. mul (unit i l) (f l)) ≡ mul 1 (f i)
  unit_sum n f i l =
      sum-only n (λ k. mul (unit i k) (f k)) i l
      (λ k m d. ap (λ y. mul y (f k)) (put-other (λ q. 0) i 1 k d) ∙ zero-mul size mul field (f k))
      ∙ ap (λ y. mul y (f i)) (put-same (λ q. 0) i 1)

  pub dot_comm : (n : ℕ) (x y : ℕ → ℕ) → dot mul n x y ≡ dot mul n y x
  dot_comm n x y = sum-same n (λ p. mul (x p) (y p)) (λ p. mul (y p) (x p)) (λ p l. field.mul_comm (x p) (y p))

  pub dot_below : (n : ℕ) (x y : ℕ → ℕ) → dot mul n x y < size
  dot_below n x y = sum_below size mul field n (λ p. mul (x p) (y p)) (λ p l. field.mul_below (x p) (y p))

  -- the product of a combination
  pub dot_combine : (n : ℕ) (rows : ℕ → ℕ → ℕ) (r : ℕ) (c v w : ℕ → ℕ) → ((p : ℕ) → p < n → v p ≡ combine mul r c rows p) → dot mul n v w ≡ xor_sum r (λ i. mul (c i) (dot mul n (rows i) w))
  dot_combine n rows r c v w e =
      sum-same n (λ p. mul (v p) (w p)) (λ p. xor_sum r (λ i. mul (mul (c i) (rows i p)) (w p)))
      (λ p l. ap (λ y. mul y (w p)) (e p l) ∙ sum-mul size mul field r (λ i. mul (c i) (rows i p)) (w p))
      ∙ sum-swap n r (λ p i. mul (mul (c i) (rows i p)) (w p))
      ∙ sum-same r (λ i. xor_sum n (λ p. mul (mul (c i) (rows i p)) (w p))) (λ i. mul (c i) (dot mul n (rows i) w))
      (λ i l. sum-same n (λ p. mul (mul (c i) (rows i p)) (w p)) (λ p. mul (c i) (mul (rows i p) (w p))) (λ p m. field.mul_assoc (c i) (rows i p) (w p))
      ∙ sym (mul-sum size mul field (c i) n (λ p. mul (rows i p) (w p))))

  -- n + 1 vectors of length n are dependent
  pub too_many : (n : ℕ) (rows : ℕ → ℕ → ℕ) → ((i j : ℕ) → rows i j < size) → AreIndependent size mul n rows (suc n) → ⊥
  too_many n rows b h =
      let e : rank size mul n rows (suc n) ≡ suc n = rank_of_new size mul field n rows (suc n) (new_of_independent size mul field n rows (suc n) b h) in
      let f : rank size mul n rows (suc n) ≤ n = rank-le-columns size mul field n rows (suc n) b in
      omega arith

  -- n independent vectors of length n span all
  pub full_spans : (n : ℕ) (rows : ℕ → ℕ → ℕ) (v : ℕ → ℕ) → ((i j : ℕ) → rows i j < size) → ((j : ℕ) → v j < size) → AreIndependent size mul n rows n → IsCombination mul n rows n v
  full_spans n rows v b s h = elim (cases_span size mul field n rows n v) [ inl k ↦ k | inr d ↦ absurd (full_spans_not d) ]
    where
      full_spans_not : (IsCombination mul n rows n v → ⊥) → ⊥
      full_spans_not d =
          let more : ℕ → ℕ → ℕ = λ i. cond (eqb i n) v (rows i) in
          let at_n : (j : ℕ) → more n j ≡ v j = λ j. ap (λ (f : ℕ → ℕ). f j) (cond-true (eqb n n) v (rows n) (eq-eqb n n refl)) in
          let before : (i : ℕ) → i < n → (j : ℕ) → j < n → more i j ≡ rows i j = λ i l j m. ap (λ (f : ℕ → ℕ). f j) (cond-false (eqb i n) v (rows i) (ne_eqb i n (omega arith))) in
          let small : (i j : ℕ) → more i j < size = λ i j. elim (cases_eq i n) [
            | inl e ↦ subst (λ (y : ℕ). y < size) (sym (ap (λ (f : ℕ → ℕ). f j) (cond-true (eqb i n) v (rows i) (eq-eqb i n e)))) (s j)
            | inr ne ↦ subst (λ (y : ℕ). y < size) (sym (ap (λ (f : ℕ → ℕ). f j) (cond-false (eqb i n) v (rows i) (ne_eqb i n ne)))) (b i j)
          ] in
          let one : rank size mul n more (suc n) ≡ rank size mul n more n + 1 =
          rank_more size mul field n more n (λ k. d (combination_rows rows before (combination_same size mul field v k (λ j l. at_n j)))) in
          let two : rank size mul n more n ≡ rank size mul n rows n = rank_rows size mul field n more rows n before in
          let three : rank size mul n rows n ≡ n = rank_of_new size mul field n rows n (new_of_independent size mul field n rows n b h) in
          let four : rank size mul n more (suc n) ≤ n = rank-le-columns size mul field n more (suc n) small in
          omega arith

  pub dual-flip : (n : ℕ) (rows duals : ℕ → ℕ → ℕ) → IsDual mul n rows duals → IsDual mul n duals rows
  dual-flip n rows duals h = record { products = λ i j l m. dot_comm n (duals i) (rows j) ∙ h.products j i m l ∙ unit-flip j i }

  -- vectors with a dual list are independent
  pub independent_of_dual : (n : ℕ) (rows duals : ℕ → ℕ → ℕ) → IsDual mul n rows duals → AreIndependent size mul n rows n
  independent_of_dual n rows duals h = record {
    only_zero = λ c s z j l.
        let e : dot mul n (λ p. combine mul n c rows p) (duals j) ≡ xor_sum n (λ i. mul (c i) (dot mul n (rows i) (duals j))) = dot_combine n rows n c (λ p. combine mul n c rows p) (duals j) (λ p m. refl) in
        let f : xor_sum n (λ i. mul (c i) (dot mul n (rows i) (duals j))) ≡ xor_sum n (λ i. mul (c i) (unit i j)) =
        sum-same n (λ i. mul (c i) (dot mul n (rows i) (duals j))) (λ i. mul (c i) (unit i j)) (λ i m. ap (λ y. mul (c i) y) (h.products i j m l)) in
        let g : dot mul n (λ p. combine mul n c rows p) (duals j) ≡ 0 =
        sum-zero n (λ p. mul (combine mul n c rows p) (duals j p)) (λ p m. ap (λ y. mul y (duals j p)) (z p m) ∙ zero-mul size mul field (duals j p)) in
        sym (mul_one size mul field (c j) (s j l)) ∙ sym (sum_unit n c j l) ∙ sym f ∙ sym e ∙ g;
  }

  -- every vector is the combination of the dual list by its products with the vectors
  pub dual_combination : (n : ℕ) (rows duals : ℕ → ℕ → ℕ) (v : ℕ → ℕ) → ((i j : ℕ) → duals i j < size) → ((j : ℕ) → v j < size) → IsDual mul n rows duals
      → (k : ℕ) → k < n → v k ≡ combine mul n (λ i. dot mul n v (rows i)) duals k
  dual_combination n rows duals v b s h k l =
      let flip : IsDual mul n duals rows = dual-flip n rows duals h in
      let w : IsCombination mul n duals n v = full_spans n duals v b s (independent_of_dual n duals rows flip) in
      let product : (j : ℕ) → j < n → dot mul n v (rows j) ≡ mul (w.factors j) 1 =
      λ j m. dot_combine n duals n w.factors v (rows j) w.is_sum
      ∙ sum-same n (λ i. mul (w.factors i) (dot mul n (duals i) (rows j))) (λ i. mul (w.factors i) (unit i j)) (λ i q. ap (λ y. mul (w.factors i) y) (flip.products i j q m))
      ∙ sum_unit n w.factors j m in
      w.is_sum k l ∙ sum-same n (λ i. mul (w.factors i) (duals i k)) (λ i. mul (dot mul n v (rows i)) (duals i k))
      (λ i m. sym (ap (λ y. mul y (duals i k)) (product i m ∙ field.mul_comm (w.factors i) 1) ∙ one_mul-mul size mul field (w.factors i) (duals i k)))

  -- there is one dual list at most
  pub dual_unique : (n : ℕ) (rows duals others : ℕ → ℕ → ℕ) → ((i j : ℕ) → duals i j < size) → ((i j : ℕ) → others i j < size) → IsDual mul n rows duals → IsDual mul n rows others
      → (j k : ℕ) → j < n → k < n → others j k ≡ duals j k
  dual_unique n rows duals others b c h g j k lj lk =
      dual_combination n rows duals (others j) b (c j) h k lk
      ∙ sum-same n (λ i. mul (dot mul n (others j) (rows i)) (duals i k)) (λ i. mul (unit j i) (duals i k))
      (λ i l. ap (λ y. mul y (duals i k)) (dot_comm n (others j) (rows i) ∙ g.products i j l lj ∙ unit-flip i j))
      ∙ unit_sum n (λ i. duals i k) j lj ∙ field.one_mul (duals j k) (b j k)

  -- rows of factors that give the unit vectors are the columns of a dual list
  pub dual_of_factors : (n : ℕ) (rows a : ℕ → ℕ → ℕ) → ((i j : ℕ) → rows i j < size) → AreIndependent size mul n rows n
      → ((k : ℕ) → k < n → (j : ℕ) → j < n → unit k j ≡ combine mul n (a k) rows j) → IsDual mul n rows (λ j k. a k j)
  dual_of_factors n rows a b h e = record {
    products = λ i l li ll.
        let c : ℕ → ℕ = λ m. bit_xor (dot mul n (rows i) (λ k. a k m)) (unit i m) in
        let small : (m : ℕ) → m < n → c m < size = λ m q. xor_below size mul field (dot mul n (rows i) (λ k. a k m)) (unit i m) (dot_below n (rows i) (λ k. a k m)) (unit_below size mul field i m) in
        xor_same (dot mul n (rows i) (λ k. a k l)) (unit i l) (h.only_zero c small (λ j lj. dual_none i li j lj) l ll);
  }
    where
      dual_none : (i : ℕ) → i < n → (j : ℕ) → j < n → combine mul n (λ m. bit_xor (dot mul n (rows i) (λ k. a k m)) (unit i m)) rows j ≡ 0
      dual_none i li j lj =
          let first : xor_sum n (λ m. mul (dot mul n (rows i) (λ k. a k m)) (rows m j)) ≡ rows i j =
          sum-same n (λ m. mul (dot mul n (rows i) (λ k. a k m)) (rows m j)) (λ m. xor_sum n (λ k. mul (mul (rows i k) (a k m)) (rows m j)))
          (λ m l. sum-mul size mul field n (λ k. mul (rows i k) (a k m)) (rows m j))
          ∙ sum-swap n n (λ m k. mul (mul (rows i k) (a k m)) (rows m j))
          ∙ sum-same n (λ k. xor_sum n (λ m. mul (mul (rows i k) (a k m)) (rows m j))) (λ k. mul (rows i k) (unit k j))
          (λ k l.
          sum-same n (λ m. mul (mul (rows i k) (a k m)) (rows m j)) (λ m. mul (rows i k) (mul (a k m) (rows m j))) (λ m q. field.mul_assoc (rows i k) (a k m) (rows m j))
          ∙ sym (mul-sum size mul field (rows i k) n (λ m. mul (a k m) (rows m j)))
          ∙ ap (λ y. mul (rows i k) y) (sym (e k l j lj)))
          ∙ sum_unit n (rows i) j lj ∙ mul_one size mul field (rows i j) (b i j) in
          let second : xor_sum n (λ m. mul (unit i m) (rows m j)) ≡ rows i j = unit_sum n (λ m. rows m j) i li ∙ field.one_mul (rows i j) (b i j) in
          sum-same n (λ m. mul (bit_xor (dot mul n (rows i) (λ k. a k m)) (unit i m)) (rows m j)) (λ m. bit_xor (mul (dot mul n (rows i) (λ k. a k m)) (rows m j)) (mul (unit i m) (rows m j)))
          (λ m l. xor_mul size mul field (dot mul n (rows i) (λ k. a k m)) (unit i m) (rows m j))
          ∙ sum-xor n (λ m. mul (dot mul n (rows i) (λ k. a k m)) (rows m j)) (λ m. mul (unit i m) (rows m j))
          ∙ ap (λ y. bit_xor y (xor_sum n (λ m. mul (unit i m) (rows m j)))) first ∙ ap (λ y. bit_xor (rows i j) y) second ∙ xor_self (rows i j)

  -- independent vectors have a dual list
  pub dual_exists : (n : ℕ) (rows : ℕ → ℕ → ℕ) → ((i j : ℕ) → rows i j < size) → AreIndependent size mul n rows n → (duals : ℕ → ℕ → ℕ) × ((i j : ℕ) → duals i j < size) × IsDual mul n rows duals
  dual_exists n rows b h =
      let pick : (a : ℕ → ℕ → ℕ) × ((k l : ℕ) → a k l < size) × ((k : ℕ) → k < n → (j : ℕ) → j < n → unit k j ≡ combine mul n (a k) rows j) =
      choose_vectors n (λ f. (l : ℕ) → f l < size) (λ k f. (j : ℕ) → j < n → unit k j ≡ combine mul n f rows j) (λ l. zero_below size mul field)
      (λ k u.
      let w : IsCombination mul n rows n (unit k) = full_spans n rows (unit k) b (unit_below size mul field k) h in (
        λ l. mul 1 (w.factors l),
        λ l. field.mul_below 1 (w.factors l),
        λ j m. w.is_sum j m ∙ sum-same n (λ l. mul (w.factors l) (rows l j)) (λ l. mul (mul 1 (w.factors l)) (rows l j)) (λ l q. sym (one_mul-mul size mul field (w.factors l) (rows l j))),
      )) in
      (λ j k. pick.0 k j, λ i j. pick.1 j i, dual_of_factors n rows pick.0 b h pick.2)
