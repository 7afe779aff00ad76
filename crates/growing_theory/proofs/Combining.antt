-- From the factors of the reduced rows to those of the rows as they came
use Rattle.std.proofs.lemmas.Bool.{cases_eq, cases_lt, cond-true, cond-false, lt-ltb, le-ltb}
use Rattle.std.proofs.Common.{◌≡◌, ◌≢◌, ℕ, zero, suc, ◌<◌, ◌≤◌, sym, ◌∙◌, ap, subst, inl, inr, arith, bit_xor, ltb, cond}
use Rattle.std.specs.Int.Bits.{xor_zero_r}
use Rattle.field_theory.specs.Field.{IsField}
use Rattle.field_theory.specs.Sums.{xor_sum, put}
use Rattle.field_theory.proofs.Sums.{sum-same, sum-xor, sum-only, zero-mul, xor_mul, mul-sum}
use Rattle.linear_theory.proofs.Spans.{put-same, put-other}
use Rattle.growing_theory.specs.Reduction.{kept, HasPivots, IsReduction}

-- a sum of which the last terms are 0
pub sum_short : (span k : ℕ) (f : ℕ → ℕ) → span ≤ k → ((t : ℕ) → span ≤ t → t < k → f t ≡ 0) → xor_sum span f ≡ xor_sum k f
sum_short span zero f l z = ap (λ (m : ℕ). xor_sum m f) (let e : span ≡ 0 = omega arith in e)
sum_short span (suc k) f l z = elim (cases_eq span (suc k)) [
  | inl e ↦ ap (λ (m : ℕ). xor_sum m f) e
  | inr d ↦ sum_short span k f (omega arith) (λ t a u. z t a (omega arith)) ∙ sym (ap (λ (x : ℕ). bit_xor (xor_sum k f) x) (z k (omega arith) (omega arith)) ∙ xor_zero_r (xor_sum k f))
]

-- the pivot rows, those of number t and more as they came and the others reduced
abbrev pub partly : (S R : ℕ → ℕ → ℕ) → (ℕ → ℕ) → ℕ → ℕ → ℕ → ℕ
partly S R rows t u j = cond (ltb u t) (R u j) (S (rows u) j)

partly_low : (S R : ℕ → ℕ → ℕ) (rows : ℕ → ℕ) (t u j : ℕ) → u < t → partly S R rows t u j ≡ R u j
partly_low S R rows t u j l = cond-true (ltb u t) (R u j) (S (rows u) j) (lt-ltb u t l)

partly_high : (S R : ℕ → ℕ → ℕ) (rows : ℕ → ℕ) (t u j : ℕ) → t ≤ u → partly S R rows t u j ≡ S (rows u) j
partly_high S R rows t u j l = cond-false (ltb u t) (R u j) (S (rows u) j) (le-ltb u t l)

partly_next : (S R : ℕ → ℕ → ℕ) (rows : ℕ → ℕ) (t u j : ℕ) → u ≢ t → partly S R rows (suc t) u j ≡ partly S R rows t u j
partly_next S R rows t u j d = elim (cases_lt u t) [
  | inl l ↦ partly_low S R rows (suc t) u j (omega arith) ∙ sym (partly_low S R rows t u j l)
  | inr l ↦ partly_high S R rows (suc t) u j (omega arith) ∙ sym (partly_high S R rows t u j l)
]

-- the factors that are added are those of rows above
module _ (size : ℕ) (mul : ℕ → ℕ → ℕ) (field : IsField size mul) (n k : ℕ) (F R : ℕ → ℕ → ℕ) (span known pivot number rows inverse : ℕ → ℕ) (h : HasPivots mul n k F R span known pivot number rows inverse)
    (a a2 : ℕ → ℕ) (i t : ℕ) (li : i < n) (lt : t < k) (up : (u : ℕ) → u < k → a u ≢ 0 → rows u < i)
    (more : (u : ℕ) → u < span (rows t) → a2 u ≡ bit_xor (a u) (mul (a t) (F (rows t) u))) (rest : (u : ℕ) → span (rows t) ≤ u → u < k → a2 u ≡ a u) where
  pub combined_above : (u : ℕ) → u < k → a2 u ≢ 0 → rows u < i
  combined_above u lu d = elim (cases_lt u (span (rows t))) [
    | inr l ↦ up u lu (λ z. d (rest u l lu ∙ z))
    | inl l ↦ elim (cases_eq (a u) 0) [
      | inr e ↦ up u lu e
      | inl z ↦ elim (cases_eq (a t) 0) [
        | inl y ↦ absurd (d (more u l ∙ ap (λ x. bit_xor x (mul (a t) (F (rows t) u))) z ∙ ap (λ x. bit_xor 0 (mul x (F (rows t) u))) y ∙ ap (λ x. bit_xor 0 x) (zero-mul size mul field (F (rows t) u))))
        | inr y ↦
            let b : rows t < i = up t lt y in
            elim (cases_eq (F (rows t) u) 0) [
              | inr e ↦ let c : rows u < rows t = h.above (rows t) u (omega arith) l e in omega arith
              | inl e ↦ absurd (d (more u l ∙ ap (λ x. bit_xor x (mul (a t) (F (rows t) u))) z ∙ ap (λ x. bit_xor 0 (mul (a t) x)) e ∙ ap (λ x. bit_xor 0 x) (field.mul_comm (a t) 0 ∙ zero-mul size mul field (a t))))
            ]
      ]
    ]
  ]

module _ (size : ℕ) (mul : ℕ → ℕ → ℕ) (field : IsField size mul) (n k : ℕ) (S F R : ℕ → ℕ → ℕ) (span known pivot number rows inverse : ℕ → ℕ)
    (h : HasPivots mul n k F R span known pivot number rows inverse) (w : IsReduction mul n k S F R span known pivot rows) where
  -- the sum of these rows, each times its factor
  abbrev pub mixed : (ℕ → ℕ) → ℕ → ℕ → ℕ
  mixed a t j = xor_sum k (λ u. mul (a u) (partly S R rows t u j))

  -- a reduced row, times a factor that is 0 where the row is not above row i
  split_row : (a : ℕ → ℕ) (i t j : ℕ) → i < n → t < k → j < known i → (a t ≢ 0 → rows t < i) → mul (a t) (R t j) ≡ bit_xor (mul (a t) (S (rows t) j)) (mul (a t) (kept mul span F R (rows t) j))
  split_row a i t j li lt lj up = elim (cases_eq (a t) 0) [
    | inl z ↦
        ap (λ x. mul x (R t j)) z ∙ zero-mul size mul field (R t j)
        ∙ sym (ap (λ x. bit_xor (mul x (S (rows t) j)) (mul x (kept mul span F R (rows t) j))) z ∙ ap (λ x. bit_xor x (mul 0 (kept mul span F R (rows t) j))) (zero-mul size mul field (S (rows t) j))
        ∙ ap (λ x. bit_xor 0 x) (zero-mul size mul field (kept mul span F R (rows t) j)))
    | inr d ↦
        let l : rows t < i = up d in
        let f : known i ≤ known (rows t) = h.falls (rows t) i (omega arith) li in
        ap (λ x. mul (a t) x) (w.pivot_rows t j lt (omega arith)) ∙ field.mul_xor (a t) (S (rows t) j) (kept mul span F R (rows t) j)
  ]

  -- row number t as it came in place of the reduced one, and its factors added
  module _ (a a2 : ℕ → ℕ) (i t : ℕ) (li : i < n) (lt : t < k) (up : (u : ℕ) → u < k → a u ≢ 0 → rows u < i)
      (more : (u : ℕ) → u < span (rows t) → a2 u ≡ bit_xor (a u) (mul (a t) (F (rows t) u))) (rest : (u : ℕ) → span (rows t) ≤ u → u < k → a2 u ≡ a u) where
    narrow : span (rows t) ≤ t
    narrow = h.own_span t lt

    -- what is added at each row
    abbrev addend : ℕ → ℕ → ℕ
    addend j u = cond (ltb u (span (rows t))) (mul (a t) (mul (F (rows t) u) (R u j))) 0

    added_term : (j u : ℕ) → u < k → mul (a2 u) (partly S R rows t u j) ≡ bit_xor (mul (a u) (partly S R rows t u j)) (addend j u)
    added_term j u lu = elim (cases_lt u (span (rows t))) [
      | inl l ↦
          let low : u < t = let b : span (rows t) ≤ t = narrow in omega arith in
          ap (λ x. mul x (partly S R rows t u j)) (more u l) ∙ xor_mul size mul field (a u) (mul (a t) (F (rows t) u)) (partly S R rows t u j)
          ∙ ap (λ x. bit_xor (mul (a u) (partly S R rows t u j)) x)
          (ap (λ x. mul (mul (a t) (F (rows t) u)) x) (partly_low S R rows t u j low) ∙ field.mul_assoc (a t) (F (rows t) u) (R u j)
          ∙ sym (cond-true (ltb u (span (rows t))) (mul (a t) (mul (F (rows t) u) (R u j))) 0 (lt-ltb u (span (rows t)) l)))
      | inr l ↦
          ap (λ x. mul x (partly S R rows t u j)) (rest u l lu) ∙ sym (xor_zero_r (mul (a u) (partly S R rows t u j)))
          ∙ ap (λ x. bit_xor (mul (a u) (partly S R rows t u j)) x) (sym (cond-false (ltb u (span (rows t))) (mul (a t) (mul (F (rows t) u) (R u j))) 0 (le-ltb u (span (rows t)) l)))
    ]

    added_sum : (j : ℕ) → xor_sum k (addend j) ≡ mul (a t) (kept mul span F R (rows t) j)
    added_sum j =
        sym (sum_short (span (rows t)) k (addend j) (let b : span (rows t) ≤ t = narrow in omega arith)
        (λ u l lu. cond-false (ltb u (span (rows t))) (mul (a t) (mul (F (rows t) u) (R u j))) 0 (le-ltb u (span (rows t)) l)))
        ∙ sum-same (span (rows t)) (addend j) (λ u. mul (a t) (mul (F (rows t) u) (R u j))) (λ u l. cond-true (ltb u (span (rows t))) (mul (a t) (mul (F (rows t) u) (R u j))) 0 (lt-ltb u (span (rows t)) l))
        ∙ sym (mul-sum size mul field (a t) (span (rows t)) (λ u. mul (F (rows t) u) (R u j)))

    unreduced_term : (j u : ℕ) → j < known i → u < k → mul (a u) (partly S R rows (suc t) u j) ≡ bit_xor (mul (a u) (partly S R rows t u j)) (put (λ r. 0) t (mul (a t) (kept mul span F R (rows t) j)) u)
    unreduced_term j u lj lu = elim (cases_eq u t) [
      | inr d ↦
          ap (λ x. mul (a u) x) (partly_next S R rows t u j d) ∙ sym (xor_zero_r (mul (a u) (partly S R rows t u j)))
          ∙ ap (λ x. bit_xor (mul (a u) (partly S R rows t u j)) x) (sym (put-other (λ r. 0) t (mul (a t) (kept mul span F R (rows t) j)) u d))
      | inl e ↦
          subst (λ (r : ℕ). mul (a r) (partly S R rows (suc t) r j) ≡ bit_xor (mul (a r) (partly S R rows t r j)) (put (λ q. 0) t (mul (a t) (kept mul span F R (rows t) j)) r)) (sym e)
          (ap (λ x. mul (a t) x) (partly_low S R rows (suc t) t j (omega arith)) ∙ split_row a i t j li lt lj (up t lt)
          ∙ ap (λ x. bit_xor (mul (a t) x) (mul (a t) (kept mul span F R (rows t) j))) (sym (partly_high S R rows t t j (omega arith)))
          ∙ ap (λ x. bit_xor (mul (a t) (partly S R rows t t j)) x) (sym (put-same (λ q. 0) t (mul (a t) (kept mul span F R (rows t) j)))))
    ]

    pub combined_sum : (j : ℕ) → j < known i → mixed a2 t j ≡ mixed a (suc t) j
    combined_sum j lj =
        sum-same k (λ u. mul (a2 u) (partly S R rows t u j)) (λ u. bit_xor (mul (a u) (partly S R rows t u j)) (addend j u)) (λ u l. added_term j u l)
        ∙ sum-xor k (λ u. mul (a u) (partly S R rows t u j)) (addend j)
        ∙ ap (λ x. bit_xor (mixed a t j) x) (added_sum j)
        ∙ ap (λ x. bit_xor (mixed a t j) x)
        (sym (sum-only k (put (λ r. 0) t (mul (a t) (kept mul span F R (rows t) j))) t lt (λ u l d. put-other (λ r. 0) t (mul (a t) (kept mul span F R (rows t) j)) u d) ∙ put-same (λ r. 0) t (mul (a t) (kept mul span F R (rows t) j))))
        ∙ sym (sum-xor k (λ u. mul (a u) (partly S R rows t u j)) (put (λ r. 0) t (mul (a t) (kept mul span F R (rows t) j))))
        ∙ sym (sum-same k (λ u. mul (a u) (partly S R rows (suc t) u j)) (λ u. bit_xor (mul (a u) (partly S R rows t u j)) (put (λ r. 0) t (mul (a t) (kept mul span F R (rows t) j)) u)) (λ u l. unreduced_term j u lj l))

  -- at first all rows are reduced
  pub mixed_first : (a : ℕ → ℕ) (i j : ℕ) → i < n → ((t : ℕ) → t < span i → a t ≡ F i t) → ((t : ℕ) → span i ≤ t → t < k → a t ≡ 0) → mixed a k j ≡ kept mul span F R i j
  mixed_first a i j li same zeros =
      sum-same k (λ u. mul (a u) (partly S R rows k u j)) (λ u. mul (a u) (R u j)) (λ u l. ap (λ x. mul (a u) x) (partly_low S R rows k u j l))
      ∙ sym (sum_short (span i) k (λ u. mul (a u) (R u j)) (h.spans i li) (λ t l u. ap (λ x. mul x (R t j)) (zeros t l u) ∙ zero-mul size mul field (R t j)))
      ∙ sum-same (span i) (λ u. mul (a u) (R u j)) (λ u. mul (F i u) (R u j)) (λ t l. ap (λ x. mul x (R t j)) (same t l))

  pub first_above : (a : ℕ → ℕ) (i : ℕ) → i < n → ((t : ℕ) → t < span i → a t ≡ F i t) → ((t : ℕ) → span i ≤ t → t < k → a t ≡ 0) → (u : ℕ) → u < k → a u ≢ 0 → rows u < i
  first_above a i li same zeros u l d = elim (cases_lt u (span i)) [
    | inl m ↦ h.above i u li m (λ z. d (same u m ∙ z))
    | inr m ↦ absurd (d (zeros u m l))
  ]

  -- at last none is
  pub mixed_last : (a : ℕ → ℕ) (j : ℕ) → mixed a 0 j ≡ xor_sum k (λ u. mul (a u) (S (rows u) j))
  mixed_last a j = sum-same k (λ u. mul (a u) (partly S R rows 0 u j)) (λ u. mul (a u) (S (rows u) j)) (λ u l. ap (λ x. mul (a u) x) (partly_high S R rows 0 u j (omega arith)))
