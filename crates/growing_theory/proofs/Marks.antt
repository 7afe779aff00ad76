-- What the pivots of a matrix say of its ranks: a position is a candidate where its row has no pivot before it and its
-- column none above it
use Rattle.std.proofs.lemmas.Bool.{cases_eq, cases_lt, cases_order, cond-true, cond-false, cases_Bool, ltb-true, ltb-false, lt-ltb, le-ltb}
use Rattle.std.proofs.Common.{◌≡◌, ◌≢◌, ◌⊎◌, ◌↔◌, ℕ, zero, suc, ◌+◌, ◌<◌, ◌≤◌, sym, ◌∙◌, ap, subst, refl, inl, inr, arith, bit_xor, cond, ltb, Bool, true, false, add-zero}
use Rattle.field_theory.specs.Field.{IsField}
use Rattle.field_theory.specs.Sums.{put, count_below, total}
use Rattle.linear_theory.specs.Linear.{combine, IsCombination, rank, put_entry}
use Rattle.counting_theory.specs.Ranks.{wrong}
use Rattle.field_theory.proofs.Sums.{xor_same, sum-zero, sum-only, eq_or_below, mul-zero, zero-mul, one_mul-mul, xor_below}
use Rattle.linear_theory.proofs.Spans.{put-same, put-other, xor_back, combination_same, combination_xor, combination_more, combination_last, combination_through}
use Rattle.linear_theory.proofs.Ranks.{rank_same, rank_more, rank_zero, combination_of_rank}
use Rattle.linear_theory.proofs.Corners.{put_entry-rank_same, candidate_value}
use Rattle.linear_theory.proofs.Wrongs.{part_rank, row_wrongs}
use Rattle.growing_theory.specs.Pivots.{ArePivots}

abbrev one_if : Bool → ℕ
one_if b = cond b 1 0

-- no pivot at column j: as many pivots below suc j as below j
pivot_bit : (p j : ℕ) → p ≢ j → one_if (ltb p (suc j)) ≡ one_if (ltb p j)
pivot_bit p j d = elim (cases_lt p j) [
  | inl l ↦ cond-true (ltb p (suc j)) 1 0 (lt-ltb p (suc j) (omega arith)) ∙ sym (cond-true (ltb p j) 1 0 (lt-ltb p j l))
  | inr l ↦ cond-false (ltb p (suc j)) 1 0 (le-ltb p (suc j) (omega arith)) ∙ sym (cond-false (ltb p j) 1 0 (le-ltb p j l))
]

pivot_bit-le : (p j : ℕ) → one_if (ltb p j) ≤ one_if (ltb p (suc j))
pivot_bit-le p j = elim (cases_eq p j) [
  | inr d ↦ let e : one_if (ltb p (suc j)) ≡ one_if (ltb p j) = pivot_bit p j d in omega arith
  | inl e ↦ let z : one_if (ltb p j) ≡ 0 = cond-false (ltb p j) 1 0 (le-ltb p j (omega arith)) in omega arith
]

pivot_bit-more : (p j : ℕ) → p ≡ j → one_if (ltb p (suc j)) ≡ one_if (ltb p j) + 1
pivot_bit-more p j e = cond-true (ltb p (suc j)) 1 0 (lt-ltb p (suc j) (omega arith)) ∙ ap (λ (x : ℕ). x + 1) (sym (cond-false (ltb p j) 1 0 (le-ltb p j (omega arith))))

same_count : (i : ℕ) (pivot : ℕ → ℕ) (j : ℕ) → ((p : ℕ) → p < i → pivot p ≢ j) → count_below i (λ p. ltb (pivot p) (suc j)) ≡ count_below i (λ p. ltb (pivot p) j)
same_count zero pivot j d = refl
same_count (suc i) pivot j d =
    let ih : count_below i (λ p. ltb (pivot p) (suc j)) ≡ count_below i (λ p. ltb (pivot p) j) = same_count i pivot j (λ p l. d p (omega arith)) in
    let e : one_if (ltb (pivot i) (suc j)) ≡ one_if (ltb (pivot i) j) = pivot_bit (pivot i) j (d i (omega arith)) in
    omega arith

count-le : (i : ℕ) (pivot : ℕ → ℕ) (j : ℕ) → count_below i (λ p. ltb (pivot p) j) ≤ count_below i (λ p. ltb (pivot p) (suc j))
count-le zero pivot j = omega arith
count-le (suc i) pivot j = omega (arith, count-le i pivot j, pivot_bit-le (pivot i) j)

no_more : (i : ℕ) (pivot : ℕ → ℕ) (j : ℕ) → count_below i (λ p. ltb (pivot p) (suc j)) ≡ count_below i (λ p. ltb (pivot p) j) → (p : ℕ) → p < i → pivot p ≢ j
no_more zero pivot j e p l f = absurd (omega arith)
no_more (suc i) pivot j e p l f =
    let a : count_below i (λ p. ltb (pivot p) j) ≤ count_below i (λ p. ltb (pivot p) (suc j)) = count-le i pivot j in
    let b : one_if (ltb (pivot i) j) ≤ one_if (ltb (pivot i) (suc j)) = pivot_bit-le (pivot i) j in
    elim (eq_or_below p i l) [
      | inl d ↦ let g : one_if (ltb (pivot i) (suc j)) ≡ one_if (ltb (pivot i) j) + 1 = pivot_bit-more (pivot i) j (ap pivot (sym d) ∙ f) in omega arith
      | inr m ↦ no_more i pivot j (omega arith) p m f
    ]

module _ (size : ℕ) (mul : ℕ → ℕ → ℕ) (field : IsField size mul) where
  -- a factor that takes one element other than 0 to 0 takes each to 0
  dead_factor : (a l x : ℕ) → l < size → l ≢ 0 → mul a l ≡ 0 → mul a x ≡ 0
  dead_factor a l x b d z =
      let w : (y : ℕ) × (y < size) × (mul l y ≡ 1) = field.inverse l b d in
      field.mul_comm a x ∙ sym (one_mul-mul size mul field x a) ∙ field.mul_comm (mul 1 x) a
      ∙ ap (λ y. mul a (mul y x)) (sym w.2) ∙ ap (λ y. mul a y) (field.mul_assoc l w.0 x) ∙ sym (field.mul_assoc a l (mul w.0 x))
      ∙ ap (λ y. mul y (mul w.0 x)) z ∙ zero-mul size mul field (mul w.0 x)

  -- Of rows T with leads at columns of their own, a combination that is 0 before column c has factors that do not count
  -- at the rows with leads before c
  dead_before : (T : ℕ → ℕ → ℕ) (r : ℕ) (pivot a : ℕ → ℕ) (c : ℕ) → ((i j : ℕ) → T i j < size)
      → ((p j : ℕ) → p < r → j < c → j < pivot p → T p j ≡ 0) → ((p : ℕ) → p < r → pivot p < c → T p (pivot p) ≢ 0)
      → ((p q : ℕ) → p < r → q < r → pivot p < c → pivot p ≡ pivot q → p ≡ q)
      → ((j : ℕ) → j < c → combine mul r a T j ≡ 0)
      → (b : ℕ) → b ≤ c → (p : ℕ) → p < r → pivot p < b → (x : ℕ) → mul (a p) x ≡ 0
  dead_before T r pivot a c t before lead apart z zero l p lp lc x = absurd (omega arith)
  dead_before T r pivot a c t before lead apart z (suc b) l p lp lc x = elim (eq_or_below (pivot p) b lc) [
    | inr m ↦ dead_before T r pivot a c t before lead apart z b (omega arith) p lp m x
    | inl e ↦
        let others : (q : ℕ) → q < r → q ≢ p → mul (a q) (T q b) ≡ 0 =
        λ q lq d. elim (cases_order (pivot q) b) [
          | inl f ↦ absurd (d (sym (apart p q lp lq (omega arith) (e ∙ sym f))))
          | inr w ↦ elim w [
            | inl m ↦ dead_before T r pivot a c t before lead apart z b (omega arith) q lq m (T q b)
            | inr m ↦ ap (λ y. mul (a q) y) (before q b lq (omega arith) m) ∙ mul-zero size mul field (a q)
          ]
        ] in
        let at : mul (a p) (T p b) ≡ 0 = sym (sum-only r (λ q. mul (a q) (T q b)) p lp others) ∙ z b (omega arith) in
        dead_factor (a p) (T p (pivot p)) x (t p (pivot p)) (lead p lp (omega arith)) (ap (λ (y : ℕ). mul (a p) (T p y)) e ∙ at)
  ]

  -- a row with a lead of its own is no combination of the rows above it
  lead_new : (T : ℕ → ℕ → ℕ) (r : ℕ) (pivot : ℕ → ℕ) (j : ℕ) → ((i j : ℕ) → T i j < size)
      → ((p j : ℕ) → p < suc r → j < pivot r → j < pivot p → T p j ≡ 0) → ((p : ℕ) → p < suc r → pivot p < suc (pivot r) → T p (pivot p) ≢ 0)
      → ((p : ℕ) → p < r → pivot p < pivot r → T p (pivot p) ≢ 0 → (q : ℕ) → q < r → pivot p ≡ pivot q → p ≡ q)
      → ((p : ℕ) → p < r → pivot r < pivot p → T p (pivot r) ≡ 0)
      → ((p : ℕ) → p < r → pivot p ≢ pivot r)
      → pivot r < j → IsCombination mul j T r (T r) → ⊥
  lead_new T r pivot j t before lead apart at own l h =
      let dead : (p : ℕ) → p < r → pivot p < pivot r → (x : ℕ) → mul (h.factors p) x ≡ 0 =
      dead_before T r pivot h.factors (pivot r) t (λ p k lp lk m. before p k (omega arith) lk m) (λ p lp m. lead p (omega arith) (omega arith))
      (λ p q lp lq m e. apart p lp m (lead p (omega arith) (omega arith)) q lq e)
      (λ k m. sym (h.is_sum k (omega arith)) ∙ before r k (omega arith) m m) (pivot r) (omega arith) in
      lead r (omega arith) (omega arith)
      (h.is_sum (pivot r) l
      ∙ sum-zero r (λ p. mul (h.factors p) (T p (pivot r)))
      (λ p lp. elim (cases_order (pivot p) (pivot r)) [
        | inl f ↦ absurd (own p lp f)
        | inr w ↦ elim w [
          | inl m ↦ dead p lp m (T p (pivot r))
          | inr m ↦ ap (λ y. mul (h.factors p) y) (at p lp m) ∙ mul-zero size mul field (h.factors p)
        ]
      ]))

  module _ (n : ℕ) (S W : ℕ → ℕ → ℕ) (known pivot : ℕ → ℕ) (s : (i j : ℕ) → S i j < size) (w : (i j : ℕ) → W i j < size) (h : ArePivots mul n S W known pivot) where
    -- the reduced rows
    abbrev reduced : ℕ → ℕ → ℕ
    reduced i j = bit_xor (S i j) (W i j)

    reduced_below : (i j : ℕ) → reduced i j < size
    reduced_below i j = xor_below size mul field (S i j) (W i j) (s i j) (w i j)

    -- each row is a combination of the reduced rows down to it
    unreduced : (m r : ℕ) → m ≤ n → r ≤ n → ((p : ℕ) → p < r → m ≤ known p) → (p : ℕ) → p < r → IsCombination mul m reduced r (S p)
    unreduced m zero lm lr all p lp = absurd (omega arith)
    unreduced m (suc r) lm lr all p lp = elim (eq_or_below p r lp) [
      | inr u ↦ combination_more size mul field (unreduced m r lm (omega arith) (λ q l. all q (omega arith)) p u)
      | inl e ↦
          subst (λ (q : ℕ). IsCombination mul m reduced (suc r) (S q)) (sym e)
          (combination_same size mul field (S r)
          (combination_xor size mul field (combination_last size mul field m reduced r (reduced_below r))
          (combination_more size mul field (combination_through size mul field m S r reduced r (W r) (λ q l. unreduced m r lm (omega arith) (λ v u. all v (omega arith)) q l) (h.corrected r m (omega arith) lm (λ q l. all q (omega arith))))))
          (λ j l. xor_back (S r j) (W r j)))
    ]

    -- a row with a pivot among the first j columns adds to the rank
    pub row_new : (i j : ℕ) → i < n → j ≤ known i → pivot i < j → IsCombination mul j S i (S i) → ⊥
    row_new i j li lj l k =
        let wide : known i ≤ n = h.width i li in
        let near : (p : ℕ) → p < suc i → known i ≤ known p = λ p lp. h.falls p i (omega arith) li in
        lead_new reduced i pivot j reduced_below
        (λ p q lp lq m. h.before p q (omega arith) (let u : known i ≤ known p = near p lp in omega arith) m)
        (λ p lp m. h.lead p (omega arith) (let u : known i ≤ known p = near p lp in omega arith))
        (λ p lp m d q lq e. h.apart p q (omega arith) (omega arith) (let u : known i ≤ known p = near p (omega arith) in omega arith) e)
        (λ p lp m. h.before p (pivot i) (omega arith) (let u : known i ≤ known p = near p (omega arith) in omega arith) m)
        (λ p lp e. let u : i ≡ p = h.apart i p li (omega arith) (omega arith) (sym e) in omega arith)
        l
        (combination_through size mul field j S i reduced i (reduced i) (λ p lp. unreduced j i (omega arith) (omega arith) (λ q u. let v : known i ≤ known q = near q (omega arith) in omega arith) p lp)
        (combination_xor size mul field k (h.corrected i j li (omega arith) (λ q u. let v : known i ≤ known q = near q (omega arith) in omega arith))))

    -- before its pivot a row is its own correction
    pub row_correction : (i j : ℕ) → i < n → j < known i → j < pivot i → S i j ≡ W i j
    row_correction i j li lj l = xor_same (S i j) (W i j) (h.before i j li lj l)

    -- a row with no pivot among the first j columns adds nothing
    pub row_old : (i j : ℕ) → i < n → j ≤ known i → j ≤ pivot i → IsCombination mul j S i (S i)
    row_old i j li lj l =
        let wide : known i ≤ n = h.width i li in
        combination_same size mul field (S i) (h.corrected i j li (omega arith) (λ q u. let v : known i ≤ known q = h.falls q i (omega arith) li in omega arith)) (λ q lq. sym (row_correction i q li (omega arith) (omega arith)))

    -- the rank of the first rows and columns, as far as they are known, is the number of pivots in them
    pub rank_pivots : (i j : ℕ) → i ≤ n → ((p : ℕ) → p < i → j ≤ known p) → rank size mul j S i ≡ count_below i (λ p. ltb (pivot p) j)
    rank_pivots zero j li all = rank_zero size mul field j S
    rank_pivots (suc i) j li all =
        let ih : rank size mul j S i ≡ count_below i (λ p. ltb (pivot p) j) = rank_pivots i j (omega arith) (λ p lp. all p (omega arith)) in
        rank_pivots_step i j ih (cases_Bool (ltb (pivot i) j)) (λ l. rank_more size mul field j S i (row_new i j (omega arith) (all i (omega arith)) l)) (λ l. rank_same size mul field j S i (row_old i j (omega arith) (all i (omega arith)) l))
      where
        rank_pivots_step : (i j : ℕ) → rank size mul j S i ≡ count_below i (λ p. ltb (pivot p) j) → (ltb (pivot i) j ≡ true) ⊎ (ltb (pivot i) j ≡ false)
            → (pivot i < j → rank size mul j S (suc i) ≡ rank size mul j S i + 1) → (j ≤ pivot i → rank size mul j S (suc i) ≡ rank size mul j S i)
            → rank size mul j S (suc i) ≡ count_below (suc i) (λ p. ltb (pivot p) j)
        rank_pivots_step i j ih (inl e) more same =
            more (ltb-true (pivot i) j e) ∙ ap (λ x. x + 1) ih ∙ ap (λ x. count_below i (λ p. ltb (pivot p) j) + x) (sym (cond-true (ltb (pivot i) j) 1 0 e))
        rank_pivots_step i j ih (inr e) more same =
            same (ltb-false (pivot i) j e) ∙ ih ∙ sym (add-zero (count_below i (λ p. ltb (pivot p) j))) ∙ ap (λ x. count_below i (λ p. ltb (pivot p) j) + x) (sym (cond-false (ltb (pivot i) j) 1 0 e))

    -- the row of a position adds nothing before it where the row has no pivot before it
    pub row_candidate : (i j : ℕ) → i < n → j ≤ known i → (rank size mul j S (suc i) ≡ rank size mul j S i) ↔ (j ≤ pivot i)
    row_candidate i j li lj = (
      λ e. elim (cases_lt (pivot i) j) [
        | inl l ↦ absurd (row_new i j li lj l (combination_of_rank size mul field j S i e))
        | inr l ↦ l
      ],
      λ l. rank_same size mul field j S i (row_old i j li lj l),
    )

    -- the column of a position adds nothing above it where it has no pivot above it
    pub column_candidate : (i j : ℕ) → i ≤ n → ((p : ℕ) → p < i → suc j ≤ known p) → (rank size mul (suc j) S i ≡ rank size mul j S i) ↔ ((p : ℕ) → p < i → pivot p ≢ j)
    column_candidate i j li all =
        let more : rank size mul (suc j) S i ≡ count_below i (λ p. ltb (pivot p) (suc j)) = rank_pivots i (suc j) li all in
        let less : rank size mul j S i ≡ count_below i (λ p. ltb (pivot p) j) = rank_pivots i j li (λ p lp. let u : suc j ≤ known p = all p lp in omega arith) in (
          λ e. no_more i pivot j (sym more ∙ e ∙ less),
          λ none. more ∙ same_count i pivot j none ∙ sym less,
        )

    -- at a candidate the correction is the entry that keeps the rank, and each other entry makes it greater
    pub residue_value : (i j : ℕ) → i < n → j ≤ known i → j < n → ((p : ℕ) → p < i → suc j ≤ known p)
        → rank size mul j S (suc i) ≡ rank size mul j S i → rank size mul (suc j) S i ≡ rank size mul j S i
        → (rank size mul (suc j) (put_entry S i j (W i j)) (suc i) ≡ rank size mul j S i)
        × ((y : ℕ) → y < size → y ≢ W i j → rank size mul (suc j) (put_entry S i j y) (suc i) ≡ rank size mul j S i + 1)
    residue_value i j li lj lw all er ec =
        let low : j ≤ pivot i = (row_candidate i j li lj).0 er in
        let fits : IsCombination mul (suc j) S i (put (S i) j (W i j)) =
        combination_same size mul field (put (S i) j (W i j)) (h.corrected i (suc j) li (omega arith) all)
        (λ q l. elim (eq_or_below q j l) [
          | inl e ↦ subst (λ (k : ℕ). W i k ≡ put (S i) j (W i j) k) (sym e) (sym (put-same (S i) j (W i j)))
          | inr m ↦ sym (row_correction i q li (omega arith) (omega arith)) ∙ sym (put-other (S i) j (W i j) q (omega arith))
        ]) in
        let keeps : rank size mul (suc j) (put_entry S i j (W i j)) (suc i) ≡ rank size mul j S i = put_entry-rank_same size mul field S i j (W i j) (suc j) fits ∙ ec in
        let one : (x : ℕ) × (x < size) × (rank size mul (suc j) (put_entry S i j x) (suc i) ≡ rank size mul j S i)
        × ((y : ℕ) → y < size → y ≢ x → rank size mul (suc j) (put_entry S i j y) (suc i) ≡ rank size mul j S i + 1) = candidate_value size mul field S s i j er ec in
        let is : W i j ≡ one.0 = elim (cases_eq (W i j) one.0) [
          | inl e ↦ e
          | inr d ↦ absurd (let u : rank size mul (suc j) (put_entry S i j (W i j)) (suc i) ≡ rank size mul j S i + 1 = one.3 (W i j) (w i j) d in omega arith)
        ] in
        (keeps, λ y l d. one.3 y l (λ e. d (e ∙ sym is)))

    -- the wrong candidates of row i, as far as it is known: one where the row has a pivot there, else none
    row_tally : (i : ℕ) → i < n → count_below (known i) (wrong (part_rank size mul field S) i) ≡ cond (ltb (pivot i) (known i)) 1 0
    row_tally i li =
        row_tally_step (count_below (known i) (wrong (part_rank size mul field S) i)) (rank size mul (known i) S i) (rank size mul (known i) S (suc i)) (pivot i) (known i)
        (row_wrongs size mul field S s i (known i))
        (λ l. rank_more size mul field (known i) S i (row_new i (known i) li (omega arith) l)) (λ l. rank_same size mul field (known i) S i (row_old i (known i) li (omega arith) l))
        (cases_lt (pivot i) (known i))
      where
        row_tally_step : (c a b p k : ℕ) → b ≡ a + c → (p < k → b ≡ a + 1) → (k ≤ p → b ≡ a) → (p < k) ⊎ (k ≤ p) → c ≡ cond (ltb p k) 1 0
        row_tally_step c a b p k e more same (inl l) = let f : b ≡ a + 1 = more l in let g : c ≡ 1 = omega arith in g ∙ sym (cond-true (ltb p k) 1 0 (lt-ltb p k l))
        row_tally_step c a b p k e more same (inr l) = let f : b ≡ a = same l in let g : c ≡ 0 = omega arith in g ∙ sym (cond-false (ltb p k) 1 0 (le-ltb p k l))

    -- the wrong candidates among the known positions are as many as the rows with a pivot
    pub pivot_tally : (r : ℕ) → r ≤ n → total r (λ i. count_below (known i) (wrong (part_rank size mul field S) i)) ≡ count_below r (λ i. ltb (pivot i) (known i))
    pivot_tally zero l = refl
    pivot_tally (suc r) l =
        let ih : total r (λ i. count_below (known i) (wrong (part_rank size mul field S) i)) ≡ count_below r (λ i. ltb (pivot i) (known i)) = pivot_tally r (omega arith) in
        ap (λ x. x + count_below (known r) (wrong (part_rank size mul field S) r)) ih
        ∙ ap (λ x. count_below r (λ i. ltb (pivot i) (known i)) + x) (row_tally r (omega arith))
