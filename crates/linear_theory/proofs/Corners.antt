-- What a decoder by majority needs of the ranks of the first rows and columns of a matrix
use Rattle.std.proofs.lemmas.Bool.{cases_eq, cond-true, cond-false, eq-eqb, ne_eqb}
use Rattle.std.proofs.Common.{◌≡◌, ◌≢◌, ◌⊎◌, ◌↔◌, ℕ, zero, suc, ◌+◌, ◌<◌, ◌≤◌, sym, ◌∙◌, ap, subst, refl, inl, inr, arith, bit_xor, cond, eqb}
use Rattle.std.specs.Int.Bits.{xor_self}
use Rattle.field_theory.specs.Field.{IsField}
use Rattle.field_theory.specs.Sums.{put, unit}
use Rattle.linear_theory.specs.Linear.{combine, IsCombination, rank, weight, syndromes, put_entry}
use Rattle.field_theory.proofs.Sums.{xor_same, sum-same, sum_below, xor_below, eq_or_below, zero-mul, mul-zero, mul_one, mul_left_comm}
use Rattle.linear_theory.proofs.Spans.{put-same, put-other, combination_zero, combination_same, combination_xor}
use Rattle.linear_theory.proofs.Ranks.{unit_below, rank_same, rank_more, cases_rank, rank_zero, rank-le-more, rank_more-le, rank_corner, rank-le-column, rank_column-le, combination_of_rank, combination_divide, cases_column}
use Rattle.linear_theory.proofs.Exchange.{combination_rows}
use Rattle.linear_theory.proofs.Bases.{rank-le-span}

module _ (size : ℕ) (mul : ℕ → ℕ → ℕ) (field : IsField size mul) where
  -- the rank sees the rows below r and the columns below n alone
  pub rank_rows : (n : ℕ) (rows others : ℕ → ℕ → ℕ) (r : ℕ) → ((i : ℕ) → i < r → (j : ℕ) → j < n → rows i j ≡ others i j) → rank size mul n rows r ≡ rank size mul n others r
  rank_rows n rows others zero e = rank_zero size mul field n rows ∙ sym (rank_zero size mul field n others)
  rank_rows n rows others (suc r) e =
      let ih : rank size mul n rows r ≡ rank size mul n others r = rank_rows n rows others r (λ i l. e i (omega arith)) in
      let over : IsCombination mul n rows r (rows r) → IsCombination mul n others r (others r) =
      λ h. combination_rows others (λ i l. e i (omega arith)) (combination_same size mul field (others r) h (e r (omega arith))) in
      let back : IsCombination mul n others r (others r) → IsCombination mul n rows r (rows r) =
      λ h. combination_rows rows (λ i l j m. sym (e i (omega arith) j m)) (combination_same size mul field (rows r) h (λ j m. sym (e r (omega arith) j m))) in
      elim (cases_rank size mul field n rows r) [
        | inl h ↦ h.1 ∙ ih ∙ sym (rank_same size mul field n others r (over h.0))
        | inr h ↦ h.1 ∙ ap (λ (x : ℕ). x + 1) ih ∙ sym (rank_more size mul field n others r (λ g. h.0 (back g)))
      ]

  -- The four ranks of a corner. Where a row or a column adds 1, it does so on one column or row more; else the corner is a candidate
  pub corner_cases : (S : ℕ → ℕ → ℕ) → ((i j : ℕ) → S i j < size) → (i j : ℕ)
      → (rank size mul (suc j) S (suc i) + rank size mul j S i ≡ rank size mul j S (suc i) + rank size mul (suc j) S i)
      ⊎ ((rank size mul j S (suc i) ≡ rank size mul j S i) × (rank size mul (suc j) S i ≡ rank size mul j S i) × (rank size mul (suc j) S (suc i) ≡ rank size mul j S i + 1))
  corner_cases S b i j =
      corner_of (rank size mul j S i) (rank size mul j S (suc i)) (rank size mul (suc j) S i) (rank size mul (suc j) S (suc i))
      (rank-le-more size mul field j S i) (rank_more-le size mul field j S i) (rank-le-column size mul field j S i b) (rank_column-le size mul field j S i b)
      (rank_more-le size mul field (suc j) S i) (rank_column-le size mul field j S (suc i) b) (rank_corner size mul field j S i)
    where
      corner_of : (a c d e : ℕ) → a ≤ c → c ≤ a + 1 → a ≤ d → d ≤ a + 1 → e ≤ d + 1 → e ≤ c + 1 → c + d ≤ e + a
          → (e + a ≡ c + d) ⊎ ((c ≡ a) × (d ≡ a) × (e ≡ a + 1))
      corner_of a c d e h1 h2 h3 h4 h5 h6 h7 = grind arith

  -- the rank of syndromes is at most the weight of the error
  rank_of_weighted : (n : ℕ) (e : ℕ → ℕ) (f : ℕ → ℕ → ℕ) (j : ℕ) → rank size mul j (λ p q. mul (e p) (f q p)) n ≤ weight n e
  rank_of_weighted zero e f j = let z : rank size mul j (λ p q. mul (e p) (f q p)) 0 ≡ 0 = rank_zero size mul field j (λ p q. mul (e p) (f q p)) in omega arith
  rank_of_weighted (suc n) e f j =
      let ih : rank size mul j (λ p q. mul (e p) (f q p)) n ≤ weight n e = rank_of_weighted n e f j in
      elim (cases_eq (e n) 0) [
        | inl d ↦
            let w : cond (eqb (e n) 0) 0 1 ≡ 0 = cond-true (eqb (e n) 0) 0 1 (eq-eqb (e n) 0 d) in
            let z : rank size mul j (λ p q. mul (e p) (f q p)) (suc n) ≡ rank size mul j (λ p q. mul (e p) (f q p)) n =
            rank_same size mul field j (λ p q. mul (e p) (f q p)) n
            (combination_zero size mul field j (λ p q. mul (e p) (f q p)) n (λ q. mul (e n) (f q n)) (λ q l. ap (λ y. mul y (f q n)) d ∙ zero-mul size mul field (f q n))) in
            subst (λ (y : ℕ). rank size mul j (λ p q. mul (e p) (f q p)) (suc n) ≤ weight n e + y) (sym w) (omega arith)
        | inr d ↦
            let w : cond (eqb (e n) 0) 0 1 ≡ 1 = cond-false (eqb (e n) 0) 0 1 (ne_eqb (e n) 0 d) in
            let z : rank size mul j (λ p q. mul (e p) (f q p)) (suc n) ≤ rank size mul j (λ p q. mul (e p) (f q p)) n + 1 = rank_more-le size mul field j (λ p q. mul (e p) (f q p)) n in
            subst (λ (y : ℕ). rank size mul j (λ p q. mul (e p) (f q p)) (suc n) ≤ weight n e + y) (sym w) (omega arith)
      ]

  pub syndromes-below : (n : ℕ) (e : ℕ → ℕ) (f : ℕ → ℕ → ℕ) (i j : ℕ) → syndromes mul n e f i j < size
  syndromes-below n e f i j = sum_below size mul field n (λ p. mul (e p) (mul (f i p) (f j p))) (λ p l. field.mul_below (e p) (mul (f i p) (f j p)))

  pub rank-le-weight : (n : ℕ) (e : ℕ → ℕ) (f : ℕ → ℕ → ℕ) (i j : ℕ) → rank size mul j (syndromes mul n e f) i ≤ weight n e
  rank-le-weight n e f i j =
      let low : rank size mul j (λ p q. mul (e p) (f q p)) n ≤ weight n e = rank_of_weighted n e f j in
      let up : rank size mul j (syndromes mul n e f) i ≤ rank size mul j (λ p q. mul (e p) (f q p)) n =
      rank-le-span size mul field j (syndromes mul n e f) i (λ p q. mul (e p) (f q p)) n (syndromes-below n e f) (λ p q. field.mul_below (e p) (f q p))
      (λ k l. record {
        factors = f k;
        is_sum = λ q m. sum-same n (λ p. mul (e p) (mul (f k p) (f q p))) (λ p. mul (f k p) (mul (e p) (f q p))) (λ p u. mul_left_comm size mul field (e p) (f k p) (f q p));
      }) in
      omega arith

  -- The value at (i, j) for which the row is a combination: where the row is one on the columns before, and the last unit vector is none
  pub fill_value : (S : ℕ → ℕ → ℕ) (i j : ℕ) → IsCombination mul j S i (S i) → (x : ℕ) × (x < size) × IsCombination mul (suc j) S i (put (S i) j x)
  fill_value S i j h =
      let x : ℕ = combine mul i h.factors S j in (
        x,
        sum_below size mul field i (λ k. mul (h.factors k) (S k j)) (λ k l. field.mul_below (h.factors k) (S k j)),
        record {
          factors = h.factors;
          is_sum = λ q l. elim (eq_or_below q j l) [
            | inl e ↦ subst (λ (k : ℕ). put (S i) j x k ≡ combine mul i h.factors S k) (sym e) (put-same (S i) j x)
            | inr m ↦ put-other (S i) j x q (omega arith) ∙ h.is_sum q m
          ];
        },
      )

  put_twice : (v : ℕ → ℕ) (j x y q : ℕ) → x < size → y < size → bit_xor (put v j x q) (put v j y q) ≡ mul (bit_xor x y) (unit j q)
  put_twice v j x y q lx ly = elim (cases_eq q j) [
    | inl e ↦ subst (λ (k : ℕ). bit_xor (put v j x k) (put v j y k) ≡ mul (bit_xor x y) (unit j k)) (sym e)
        (ap (λ z. bit_xor z (put v j y j)) (put-same v j x) ∙ ap (λ z. bit_xor x z) (put-same v j y)
        ∙ sym (ap (λ z. mul (bit_xor x y) z) (put-same (λ k. 0) j 1) ∙ mul_one size mul field (bit_xor x y) (xor_below size mul field x y lx ly)))
    | inr d ↦
        ap (λ z. bit_xor z (put v j y q)) (put-other v j x q d) ∙ ap (λ z. bit_xor (v q) z) (put-other v j y q d) ∙ xor_self (v q)
        ∙ sym (ap (λ z. mul (bit_xor x y) z) (put-other (λ k. 0) j 1 q d) ∙ mul-zero size mul field (bit_xor x y))
  ]

  pub fill_unique : (S : ℕ → ℕ → ℕ) (i j : ℕ) → (IsCombination mul (suc j) S i (unit j) → ⊥) → (x y : ℕ) → x < size → y < size
      → IsCombination mul (suc j) S i (put (S i) j x) → IsCombination mul (suc j) S i (put (S i) j y) → x ≡ y
  fill_unique S i j d x y lx ly h k = elim (cases_eq (bit_xor x y) 0) [
    | inl e ↦ xor_same x y e
    | inr ne ↦ absurd (d (combination_divide size mul field (bit_xor x y) (unit j) (xor_below size mul field x y lx ly) ne (unit_below size mul field j)
        (combination_same size mul field (λ q. mul (bit_xor x y) (unit j q)) (combination_xor size mul field h k) (λ q l. put_twice (S i) j x y q lx ly))))
  ]

  -- the ranks with another value at (i, j)
  put_entry-row : (S : ℕ → ℕ → ℕ) (i j x k : ℕ) → put_entry S i j x i k ≡ put (S i) j x k
  put_entry-row S i j x k = ap (λ (f : ℕ → ℕ). f k) (cond-true (eqb i i) (put (S i) j x) (S i) (eq-eqb i i refl))

  put_entry-other : (S : ℕ → ℕ → ℕ) (i j x q k : ℕ) → q ≢ i → put_entry S i j x q k ≡ S q k
  put_entry-other S i j x q k d = ap (λ (f : ℕ → ℕ). f k) (cond-false (eqb q i) (put (S i) j x) (S q) (ne_eqb q i d))

  pub put_entry-rank_before : (S : ℕ → ℕ → ℕ) (i j x n : ℕ) → rank size mul n (put_entry S i j x) i ≡ rank size mul n S i
  put_entry-rank_before S i j x n = rank_rows n (put_entry S i j x) S i (λ q l k m. put_entry-other S i j x q k (omega arith))

  pub put_entry-rank_same : (S : ℕ → ℕ → ℕ) (i j x n : ℕ) → IsCombination mul n S i (put (S i) j x) → rank size mul n (put_entry S i j x) (suc i) ≡ rank size mul n S i
  put_entry-rank_same S i j x n h =
      rank_same size mul field n (put_entry S i j x) i
      (combination_rows (put_entry S i j x) (λ q l k m. sym (put_entry-other S i j x q k (omega arith)))
      (combination_same size mul field (put_entry S i j x i) h (λ k m. sym (put_entry-row S i j x k))))
      ∙ put_entry-rank_before S i j x n

  pub put_entry-rank_more : (S : ℕ → ℕ → ℕ) (i j x n : ℕ) → (IsCombination mul n S i (put (S i) j x) → ⊥) → rank size mul n (put_entry S i j x) (suc i) ≡ rank size mul n S i + 1
  put_entry-rank_more S i j x n d =
      rank_more size mul field n (put_entry S i j x) i
      (λ h. d (combination_rows S (λ q l k m. put_entry-other S i j x q k (omega arith))
      (combination_same size mul field (put (S i) j x) h (λ k m. put_entry-row S i j x k))))
      ∙ ap (λ (y : ℕ). y + 1) (put_entry-rank_before S i j x n)

  no_unit_at_candidate : (S : ℕ → ℕ → ℕ) → ((i j : ℕ) → S i j < size) → (i j : ℕ) → rank size mul (suc j) S i ≡ rank size mul j S i → IsCombination mul (suc j) S i (unit j) → ⊥
  no_unit_at_candidate S b i j e h = elim (cases_column size mul field j S i b) [ inl c ↦ omega arith | inr c ↦ c.0 h ]

  -- At a candidate exactly one value at (i, j) keeps the rank, and each other one makes it one more
  pub candidate_value : (S : ℕ → ℕ → ℕ) → ((i j : ℕ) → S i j < size) → (i j : ℕ) → rank size mul j S (suc i) ≡ rank size mul j S i → rank size mul (suc j) S i ≡ rank size mul j S i
      → (x : ℕ) × (x < size) × (rank size mul (suc j) (put_entry S i j x) (suc i) ≡ rank size mul j S i)
      × ((y : ℕ) → y < size → y ≢ x → rank size mul (suc j) (put_entry S i j y) (suc i) ≡ rank size mul j S i + 1)
  candidate_value S b i j er ec =
      let w : (x : ℕ) × (x < size) × IsCombination mul (suc j) S i (put (S i) j x) = fill_value S i j (combination_of_rank size mul field j S i er) in (
        w.0,
        w.1,
        put_entry-rank_same S i j w.0 (suc j) w.2 ∙ ec,
        λ y l d. put_entry-rank_more S i j y (suc j) (λ h. d (fill_unique S i j (no_unit_at_candidate S b i j ec) y w.0 l w.1 h w.2)) ∙ ap (λ (z : ℕ). z + 1) ec,
      )

  -- a matrix that agrees with S before (i, j), in its row and in its column, has its own entry as that value where the rank stays
  pub candidate_entry : (S : ℕ → ℕ → ℕ) → ((i j : ℕ) → S i j < size) → (i j x : ℕ) → rank size mul j S (suc i) ≡ rank size mul j S i → rank size mul (suc j) S i ≡ rank size mul j S i
      → x < size → rank size mul (suc j) (put_entry S i j x) (suc i) ≡ rank size mul j S i → (rank size mul (suc j) S (suc i) ≡ rank size mul j S i) ↔ (S i j ≡ x)
  candidate_entry S b i j x er ec lx h =
      let w : (z : ℕ) × (z < size) × (rank size mul (suc j) (put_entry S i j z) (suc i) ≡ rank size mul j S i)
      × ((y : ℕ) → y < size → y ≢ z → rank size mul (suc j) (put_entry S i j y) (suc i) ≡ rank size mul j S i + 1) = candidate_value S b i j er ec in
      let own : rank size mul (suc j) (put_entry S i j (S i j)) (suc i) ≡ rank size mul (suc j) S (suc i) = rank_rows (suc j) (put_entry S i j (S i j)) S (suc i) (λ q l k m. own_entry S i j q k) in
      let x_is : x ≡ w.0 = elim (cases_eq x w.0) [ inl e ↦ e | inr d ↦ absurd (let g : rank size mul (suc j) (put_entry S i j x) (suc i) ≡ rank size mul j S i + 1 = w.3 x lx d in omega arith) ] in (
        λ k. elim (cases_eq (S i j) w.0) [
          | inl e ↦ e ∙ sym x_is
          | inr d ↦ absurd (let g : rank size mul (suc j) (put_entry S i j (S i j)) (suc i) ≡ rank size mul j S i + 1 = w.3 (S i j) (b i j) d in omega arith)
        ],
        λ e. sym own ∙ ap (λ (y : ℕ). rank size mul (suc j) (put_entry S i j y) (suc i)) e ∙ h,
      )
    where
      own_entry : (S : ℕ → ℕ → ℕ) (i j q k : ℕ) → put_entry S i j (S i j) q k ≡ S q k
      own_entry S i j q k = elim (cases_eq q i) [
        | inr d ↦ put_entry-other S i j (S i j) q k d
        | inl e ↦ subst (λ (m : ℕ). put_entry S i j (S i j) m k ≡ S m k) (sym e) (put_entry-row S i j (S i j) k ∙ elim (cases_eq k j) [
          | inl f ↦ subst (λ (m : ℕ). put (S i) j (S i j) m ≡ S i m) (sym f) (put-same (S i) j (S i j))
          | inr d ↦ put-other (S i) j (S i j) k d
        ])
      ]
