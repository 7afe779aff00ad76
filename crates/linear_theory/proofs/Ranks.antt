-- The rank of the first rows and columns of a matrix, a row and a column at a time
use Rattle.std.proofs.lemmas.Bool.{cases_eq, cond-true, cond-false, both_ways, eq-eqb, false_from_ne_true}
use Rattle.std.proofs.Common.{◌≡◌, ◌≢◌, ◌⊎◌, ◌↔◌, ℕ, zero, suc, ◌+◌, ◌<◌, ◌≤◌, eqb, sym, ◌∙◌, ap, subst, refl, inl, inr, arith, bit_xor, add-zero}
use Rattle.std.specs.Int.Bits.{xor_zero_r}
use Rattle.std.proofs.lemmas.Nat.{xor_comm}
use Rattle.field_theory.specs.Field.{IsField}
use Rattle.field_theory.specs.Sums.{unit}
use Rattle.linear_theory.specs.Linear.{combine, IsCombination, in_span, rank}
use Rattle.field_theory.proofs.Sums.{xor_cancel, sum_below, zero_below, xor_below, eq_or_below, mul-zero, zero-mul, mul_one}
use Rattle.linear_theory.proofs.Spans.{put-same, put-other, xor_back, combination_zero, combination_same, combination_xor, combination_scale, combination_split, combination_more, combination_last, combination_fewer, in_span-yes, in_span-from, cases_span}

pub xor_front : (a b : ℕ) → bit_xor (bit_xor a b) a ≡ b
xor_front a b = xor_comm (bit_xor a b) a ∙ xor_cancel a b

module _ (size : ℕ) (mul : ℕ → ℕ → ℕ) (field : IsField size mul) where
  pub unit_below : (k j : ℕ) → unit k j < size
  unit_below k j = elim (cases_eq j k) [
    | inl e ↦ subst (λ (x : ℕ). x < size) (sym (cond-true (eqb j k) 1 0 (eq-eqb j k e))) field.one_below
    | inr d ↦ subst (λ (x : ℕ). x < size) (sym (put-other (λ i. 0) k 1 j d)) (zero_below size mul field)
  ]

  -- what is left of a sum of which one part is a combination
  pub combination_rest : {n : ℕ} {rows : ℕ → ℕ → ℕ} {r : ℕ} (v w : ℕ → ℕ) → IsCombination mul n rows r v → IsCombination mul n rows r (λ j. bit_xor (v j) (w j)) → IsCombination mul n rows r w
  combination_rest v w h k = combination_same size mul field w (combination_xor size mul field k h) (λ j l. xor_front (v j) (w j))

  pub combination_front : {n : ℕ} {rows : ℕ → ℕ → ℕ} {r : ℕ} (v w : ℕ → ℕ) → IsCombination mul n rows r w → IsCombination mul n rows r (λ j. bit_xor (v j) (w j)) → IsCombination mul n rows r v
  combination_front v w h k = combination_same size mul field v (combination_xor size mul field k h) (λ j l. xor_back (v j) (w j))

  -- a factor other than 0 is divided away
  pub combination_divide : (x : ℕ) {n : ℕ} {rows : ℕ → ℕ → ℕ} {r : ℕ} (u : ℕ → ℕ) → x < size → x ≢ 0 → ((j : ℕ) → u j < size) → IsCombination mul n rows r (λ j. mul x (u j)) → IsCombination mul n rows r u
  combination_divide x u l d b h =
      let w : (y : ℕ) × (y < size) × (mul x y ≡ 1) = field.inverse x l d in
      combination_same size mul field u (combination_scale size mul field w.0 h)
      (λ j m. sym (field.mul_assoc w.0 x (u j)) ∙ ap (λ y. mul y (u j)) (field.mul_comm w.0 x ∙ w.2) ∙ field.one_mul (u j) (b j))

  pub rank_same : (n : ℕ) (rows : ℕ → ℕ → ℕ) (r : ℕ) → IsCombination mul n rows r (rows r) → rank size mul n rows (suc r) ≡ rank size mul n rows r
  unfolding rank
  rank_same n rows r h =
      ap (λ (x : ℕ). rank size mul n rows r + x) (cond-true (in_span size mul n rows r (rows r)) 0 1 (in_span-from size mul field n rows r (rows r) h))
      ∙ add-zero (rank size mul n rows r)

  pub rank_more : (n : ℕ) (rows : ℕ → ℕ → ℕ) (r : ℕ) → (IsCombination mul n rows r (rows r) → ⊥) → rank size mul n rows (suc r) ≡ rank size mul n rows r + 1
  unfolding rank
  rank_more n rows r d =
      ap (λ (x : ℕ). rank size mul n rows r + x)
      (cond-false (in_span size mul n rows r (rows r)) 0 1 (false_from_ne_true (in_span size mul n rows r (rows r)) (λ h. d (in_span-yes size mul field n rows r (rows r) h))))

  -- a row adds 0 where it is a combination of the earlier ones, and else 1
  pub cases_rank : (n : ℕ) (rows : ℕ → ℕ → ℕ) (r : ℕ)
      → (IsCombination mul n rows r (rows r) × (rank size mul n rows (suc r) ≡ rank size mul n rows r))
      ⊎ ((IsCombination mul n rows r (rows r) → ⊥) × (rank size mul n rows (suc r) ≡ rank size mul n rows r + 1))
  cases_rank n rows r = elim (cases_span size mul field n rows r (rows r)) [
    | inl h ↦ inl (h, rank_same n rows r h)
    | inr d ↦ inr (d, rank_more n rows r d)
  ]

  pub rank-le-more : (n : ℕ) (rows : ℕ → ℕ → ℕ) (r : ℕ) → rank size mul n rows r ≤ rank size mul n rows (suc r)
  rank-le-more n rows r = elim (cases_rank n rows r) [ inl h ↦ omega arith | inr h ↦ omega arith ]

  pub rank_more-le : (n : ℕ) (rows : ℕ → ℕ → ℕ) (r : ℕ) → rank size mul n rows (suc r) ≤ rank size mul n rows r + 1
  rank_more-le n rows r = elim (cases_rank n rows r) [ inl h ↦ omega arith | inr h ↦ omega arith ]

  pub combination_of_rank : (n : ℕ) (rows : ℕ → ℕ → ℕ) (r : ℕ) → rank size mul n rows (suc r) ≡ rank size mul n rows r → IsCombination mul n rows r (rows r)
  combination_of_rank n rows r e = elim (cases_rank n rows r) [ inl h ↦ h.0 | inr h ↦ absurd (omega arith) ]

  pub rank_same_iff : (n : ℕ) (rows : ℕ → ℕ → ℕ) (r : ℕ) → (rank size mul n rows (suc r) ≡ rank size mul n rows r) ↔ IsCombination mul n rows r (rows r)
  rank_same_iff n rows r = (combination_of_rank n rows r, rank_same n rows r)

  pub rank_zero : (n : ℕ) (rows : ℕ → ℕ → ℕ) → rank size mul n rows 0 ≡ 0
  unfolding rank
  rank_zero n rows = refl

  pub rank-le-rows : (n : ℕ) (rows : ℕ → ℕ → ℕ) (r : ℕ) → rank size mul n rows r ≤ r
  rank-le-rows n rows zero = let e : rank size mul n rows 0 ≡ 0 = rank_zero n rows in omega arith
  rank-le-rows n rows (suc r) = omega (arith, rank-le-rows n rows r, rank_more-le n rows r)

  -- no column, no rank
  pub rank_no_columns : (rows : ℕ → ℕ → ℕ) (r : ℕ) → rank size mul 0 rows r ≡ 0
  rank_no_columns rows zero = rank_zero 0 rows
  rank_no_columns rows (suc r) = rank_same 0 rows r (combination_zero size mul field 0 rows r (rows r) (λ j l. absurd (omega arith))) ∙ rank_no_columns rows r

  -- A combination on n columns is one on the next column too, but for a multiple of the last unit vector
  pub combination_gap : {n : ℕ} {rows : ℕ → ℕ → ℕ} {r : ℕ} (v : ℕ → ℕ) → v n < size → IsCombination mul n rows r v → (x : ℕ) × (x < size) × IsCombination mul (suc n) rows r (λ j. bit_xor (v j) (mul x (unit n j)))
  combination_gap {n = n} {rows = rows} {r = r} v b h =
      let w : ℕ → ℕ = combine mul r h.factors rows in
      let x : ℕ = bit_xor (v n) (w n) in
      let small : x < size = xor_below size mul field (v n) (w n) b (sum_below size mul field r (λ i. mul (h.factors i) (rows i n)) (λ i l. field.mul_below (h.factors i) (rows i n))) in (
        x,
        small,
        record {
          factors = h.factors;
          is_sum = λ j l. elim (eq_or_below j n l) [
            | inl e ↦ subst (λ (k : ℕ). bit_xor (v k) (mul x (unit n k)) ≡ w k) (sym e)
                (ap (λ y. bit_xor (v n) (mul x y)) (put-same (λ i. 0) n 1) ∙ ap (λ y. bit_xor (v n) y) (mul_one size mul field x small) ∙ xor_cancel (v n) (w n))
            | inr m ↦ ap (λ y. bit_xor (v j) (mul x y)) (put-other (λ i. 0) n 1 j (omega arith)) ∙ ap (λ y. bit_xor (v j) y) (mul-zero size mul field x) ∙ xor_zero_r (v j) ∙ h.is_sum j m
          ];
        },
      )

  -- One column more adds 1 where the last unit vector is a combination of the rows, and else 0
  abbrev pub ColumnCases : ℕ → (ℕ → ℕ → ℕ) → ℕ → Type 0
  ColumnCases n rows r =
      (IsCombination mul (suc n) rows r (unit n) × (rank size mul (suc n) rows r ≡ rank size mul n rows r + 1))
      ⊎ ((IsCombination mul (suc n) rows r (unit n) → ⊥) × (rank size mul (suc n) rows r ≡ rank size mul n rows r))

  -- the row is new on n columns
  column_new : (n : ℕ) (rows : ℕ → ℕ → ℕ) (r : ℕ) → ((i j : ℕ) → rows i j < size) → (IsCombination mul n rows r (rows r) → ⊥) → ColumnCases n rows r → ColumnCases n rows (suc r)
  column_new n rows r b d (inl h) =
      let e : rank size mul n rows (suc r) ≡ rank size mul n rows r + 1 = rank_more n rows r d in
      let f : rank size mul (suc n) rows (suc r) ≡ rank size mul (suc n) rows r + 1 = rank_more (suc n) rows r (λ k. d (combination_fewer size mul field k)) in
      inl (combination_more size mul field h.0, omega arith)
  column_new n rows r b d (inr h) =
      let e : rank size mul n rows (suc r) ≡ rank size mul n rows r + 1 = rank_more n rows r d in
      let f : rank size mul (suc n) rows (suc r) ≡ rank size mul (suc n) rows r + 1 = rank_more (suc n) rows r (λ k. d (combination_fewer size mul field k)) in
      inr (λ k. column_new_none n rows r b d h.0 (combination_split size mul field k), omega arith)
    where
      column_new_none : (n : ℕ) (rows : ℕ → ℕ → ℕ) (r : ℕ) → ((i j : ℕ) → rows i j < size) → (IsCombination mul n rows r (rows r) → ⊥) → (IsCombination mul (suc n) rows r (unit n) → ⊥)
          → (x : ℕ) × (x < size) × IsCombination mul (suc n) rows r (λ j. bit_xor (unit n j) (mul x (rows r j))) → ⊥
      column_new_none n rows r b d none p = elim (cases_eq p.0 0) [
        | inl e ↦ none (combination_same size mul field (unit n) p.2
            (λ j l. ap (λ y. bit_xor (unit n j) (mul y (rows r j))) e ∙ ap (λ y. bit_xor (unit n j) y) (zero-mul size mul field (rows r j)) ∙ xor_zero_r (unit n j)))
        | inr ne ↦ d (combination_divide p.0 (rows r) p.1 ne (b r)
            (combination_rest (unit n) (λ j. mul p.0 (rows r j))
            (combination_zero size mul field n rows r (unit n) (λ j l. put-other (λ i. 0) n 1 j (omega arith)))
            (combination_fewer size mul field p.2)))
      ]

  -- the row is a combination on the n columns and on the next
  column_old : (n : ℕ) (rows : ℕ → ℕ → ℕ) (r : ℕ) → IsCombination mul n rows r (rows r) → IsCombination mul (suc n) rows r (rows r) → ColumnCases n rows r → ColumnCases n rows (suc r)
  column_old n rows r g k (inl h) =
      let e : rank size mul n rows (suc r) ≡ rank size mul n rows r = rank_same n rows r g in
      let f : rank size mul (suc n) rows (suc r) ≡ rank size mul (suc n) rows r = rank_same (suc n) rows r k in
      inl (combination_more size mul field h.0, omega arith)
  column_old n rows r g k (inr h) =
      let e : rank size mul n rows (suc r) ≡ rank size mul n rows r = rank_same n rows r g in
      let f : rank size mul (suc n) rows (suc r) ≡ rank size mul (suc n) rows r = rank_same (suc n) rows r k in
      inr (
        λ u.
            let p : (x : ℕ) × (x < size) × IsCombination mul (suc n) rows r (λ j. bit_xor (unit n j) (mul x (rows r j))) = combination_split size mul field u in
            h.0 (combination_front (unit n) (λ j. mul p.0 (rows r j)) (combination_scale size mul field p.0 k) p.2),
        omega arith,
      )

  -- the row is a combination on n columns and not on the next
  column_between : (n : ℕ) (rows : ℕ → ℕ → ℕ) (r : ℕ) → ((i j : ℕ) → rows i j < size) → IsCombination mul n rows r (rows r) → (IsCombination mul (suc n) rows r (rows r) → ⊥) → ColumnCases n rows r → ColumnCases n rows (suc r)
  column_between n rows r b g d (inl h) =
      let p : (x : ℕ) × (x < size) × IsCombination mul (suc n) rows r (λ j. bit_xor (rows r j) (mul x (unit n j))) = combination_gap (rows r) (b r n) g in
      absurd (d (combination_front (rows r) (λ j. mul p.0 (unit n j)) (combination_scale size mul field p.0 h.0) p.2))
  column_between n rows r b g d (inr h) =
      let e : rank size mul n rows (suc r) ≡ rank size mul n rows r = rank_same n rows r g in
      let f : rank size mul (suc n) rows (suc r) ≡ rank size mul (suc n) rows r + 1 = rank_more (suc n) rows r d in
      let p : (x : ℕ) × (x < size) × IsCombination mul (suc n) rows r (λ j. bit_xor (rows r j) (mul x (unit n j))) = combination_gap (rows r) (b r n) g in
      let ne : p.0 ≢ 0 = λ z. d (combination_same size mul field (rows r) p.2
      (λ j l. ap (λ y. bit_xor (rows r j) (mul y (unit n j))) z ∙ ap (λ y. bit_xor (rows r j) y) (zero-mul size mul field (unit n j)) ∙ xor_zero_r (rows r j))) in
      inl (
        combination_divide p.0 (unit n) p.1 ne (unit_below n)
            (combination_rest (rows r) (λ j. mul p.0 (unit n j)) (combination_last size mul field (suc n) rows r (b r)) (combination_more size mul field p.2)),
        omega arith,
      )

  column_step : (n : ℕ) (rows : ℕ → ℕ → ℕ) (r : ℕ) → ((i j : ℕ) → rows i j < size) → ColumnCases n rows r → ColumnCases n rows (suc r)
  column_step n rows r b h = elim (cases_span size mul field n rows r (rows r)) [
    | inr d ↦ column_new n rows r b d h
    | inl g ↦ elim (cases_span size mul field (suc n) rows r (rows r)) [
      | inl k ↦ column_old n rows r g k h
      | inr d ↦ column_between n rows r b g d h
    ]
  ]

  pub cases_column : (n : ℕ) (rows : ℕ → ℕ → ℕ) (r : ℕ) → ((i j : ℕ) → rows i j < size) → ColumnCases n rows r
  cases_column n rows zero b = inr (λ h. both_ways (eqb 0 0) (absurd (omega (arith, h.is_sum n (omega arith), put-same (λ i. 0) n 1))) refl, rank_zero (suc n) rows ∙ sym (rank_zero n rows))
  cases_column n rows (suc r) b = column_step n rows r b (cases_column n rows r b)

  pub rank-le-column : (n : ℕ) (rows : ℕ → ℕ → ℕ) (r : ℕ) → ((i j : ℕ) → rows i j < size) → rank size mul n rows r ≤ rank size mul (suc n) rows r
  rank-le-column n rows r b = elim (cases_column n rows r b) [ inl h ↦ omega arith | inr h ↦ omega arith ]

  pub rank_column-le : (n : ℕ) (rows : ℕ → ℕ → ℕ) (r : ℕ) → ((i j : ℕ) → rows i j < size) → rank size mul (suc n) rows r ≤ rank size mul n rows r + 1
  rank_column-le n rows r b = elim (cases_column n rows r b) [ inl h ↦ omega arith | inr h ↦ omega arith ]

  -- no more than the columns
  pub rank-le-columns : (n : ℕ) (rows : ℕ → ℕ → ℕ) (r : ℕ) → ((i j : ℕ) → rows i j < size) → rank size mul n rows r ≤ n
  rank-le-columns zero rows r b = let e : rank size mul 0 rows r ≡ 0 = rank_no_columns rows r in omega arith
  rank-le-columns (suc n) rows r b = omega (arith, rank-le-columns n rows r b, rank_column-le n rows r b)

  -- what a row adds never falls as columns are added
  pub rank_corner : (n : ℕ) (rows : ℕ → ℕ → ℕ) (r : ℕ) → rank size mul n rows (suc r) + rank size mul (suc n) rows r ≤ rank size mul (suc n) rows (suc r) + rank size mul n rows r
  rank_corner n rows r = elim (cases_rank (suc n) rows r) [
    | inl h ↦
        let e : rank size mul n rows (suc r) ≡ rank size mul n rows r = rank_same n rows r (combination_fewer size mul field h.0) in omega arith
    | inr h ↦ omega (arith, rank_more-le n rows r)
  ]
