-- From the reduced form of the mirrored vectors to the parts of a `Parity`: the positions without a pivot are the message
-- places, and the unit words are codewords.
use Rattle.std.proofs.Common.{◌≡◌, ◌≢◌, ℕ, ◌-◌, ◌<◌, ◌≤◌, ◌^◌, true, List, [], length, get_or, not, slice_index, sym, ◌∙◌, ap, subst, inl, inr, arith}
use Rattle.std.specs.Prelude.{reverse}
use Rattle.std.proofs.lemmas.Bool.{cases_Bool, cases_lt, cases_eq}
use Rattle.std.proofs.lemmas.Nat.{pow_pos}
use Rattle.std.proofs.lemmas.List.{get_or-reverse, get_or_past, length-reverse}
use Rattle.std.proofs.lemmas.List.Elements.{All-get_or, All-from_get_or}
use Rattle.field_theory.specs.Field.{IsField}
use Rattle.field_theory.specs.Sums.{unit}
use Rattle.field_theory.proofs.Sums.{sum-same}
use Rattle.linear_theory.specs.Linear.{dot, IsCombination, IsReduced, SameSpan}
use Rattle.linear_theory.proofs.Spans.{put-same, put-other, combination_same}
use Rattle.linear_theory.proofs.Exchange.{combination_rows}
use Rattle.linear_theory.proofs.Duals.{dot_comm}
use Rattle.linear_theory.proofs.Completion.{sum-reverse}
use Rattle.linear_theory.proofs.PivotColumns.{free_column, pivot_column, free_vector}
use Rattle.gf_theory.specs.Field.{gf_mul, IsModulus}
use Rattle.gf_theory.proofs.Fields.{field_of_bits}
use Rattle.order_theory.specs.Basis.{IsWord}
use Rattle.gf_linear.specs.Matrix.{Matrix, row, entry, IsOver}
use Rattle.gf_linear.specs.Elimination.{IsEchelonOf}
use Rattle.block_theory.specs.Checks.{ParityChecks, check_at, column, column_from_end, IsMessagePlace, is_message_place, message_places}
use Rattle.parity_space.specs.Forms.{IsMirrorOf, HasPivots, is_pivot, free_places, IsUnitWord}
use Rattle.block_theory.specs.Laws.{AreChecks}
use Rattle.block_theory.proofs.Kept.{kept-same, AreKept}
use Rattle.block_theory.proofs.Completing.{message_place-from, message_place-yes, places_kept}
use Rattle.parity_space.proofs.Scans.{is_pivot-from, is_pivot-yes}

-- ---- a matrix whose rows are words

pub over_of_words : (bits n : ℕ) (m : Matrix) → ((i : ℕ) → i < length m.rows → IsWord bits n (row m i)) → IsOver bits m
over_of_words bits n m words = record {
  below = λ i p. elim (cases_lt i (length m.rows)) [
    | inl l ↦ elim (cases_lt p (length (row m i))) [
      | inl a ↦ All-get_or (λ v. v < 2 ^ bits) (row m i) p 0 a (words i l).symbols
      | inr a ↦ subst (λ (v : ℕ). v < 2 ^ bits) (sym (get_or_past (row m i) p 0 a)) (pow_pos bits)
    ]
    | inr l ↦ subst (λ (r : List ℕ). get_or r p 0 < 2 ^ bits) (sym (get_or_past m.rows i [] l)) (subst (λ (v : ℕ). v < 2 ^ bits) (sym (get_or_past [] p 0 (omega arith))) (pow_pos bits))
  ];
}

module _ (n : ℕ) (m mirror : Matrix) (words : (i : ℕ) → i < length m.rows → length (row m i) ≡ n) (is_mirror : IsMirrorOf m mirror) where
  pub mirror_entry : (i : ℕ) → i < length m.rows → (q : ℕ) → q < n → entry mirror i q ≡ entry m i (n - 1 - q)
  mirror_entry i l q lq =
      let long : length (row m i) ≡ n = words i l in
      ap (λ (r : List ℕ). get_or r q 0) (is_mirror.each i l)
      ∙ get_or-reverse (row m i) q 0 (omega arith)
      ∙ ap (λ (k : ℕ). get_or (row m i) (k - 1 - q) 0) long

  pub mirror_over : (bits : ℕ) → IsOver bits m → IsOver bits mirror
  mirror_over bits over = record {
    below = λ i q. elim (cases_lt i (length m.rows)) [
      | inl l ↦ elim (cases_lt q n) [
        | inl a ↦ subst (λ (v : ℕ). v < 2 ^ bits) (sym (mirror_entry i l q a)) (over.below i (n - 1 - q))
        | inr a ↦ subst (λ (v : ℕ). v < 2 ^ bits) (sym (past i l q a)) (pow_pos bits)
      ]
      | inr l ↦
          let rows : length mirror.rows ≡ length m.rows = is_mirror.rows in
          subst (λ (r : List ℕ). get_or r q 0 < 2 ^ bits) (sym (get_or_past mirror.rows i [] (omega arith))) (subst (λ (v : ℕ). v < 2 ^ bits) (sym (get_or_past [] q 0 (omega arith))) (pow_pos bits))
    ];
  }
    where
      past : (i : ℕ) → i < length m.rows → (q : ℕ) → n ≤ q → entry mirror i q ≡ 0
      past i l q a =
          let long : length (row m i) ≡ n = words i l in
          ap (λ (r : List ℕ). get_or r q 0) (is_mirror.each i l) ∙ get_or_past (reverse (row m i)) q 0 (rw length-reverse (omega arith))

-- ---- the reduced form, its pivots and the message places

abbrev pub checks_from : ℕ → ℕ → ℕ → Matrix → ParityChecks
checks_from bits modulus n vectors = record { bits = bits; modulus = modulus; n = n; vectors = vectors.rows }

module _ (bits modulus n : ℕ) (vectors : Matrix) (field : IsModulus bits modulus) (words : (i : ℕ) → i < length vectors.rows → IsWord bits n (row vectors i)) (cols : vectors.cols ≡ n) (mirror e : Matrix) (pivots : List ℕ)
    (is_mirror : IsMirrorOf vectors mirror) (echelon : IsEchelonOf bits modulus mirror e) (found : HasPivots e pivots) where
  is_field : IsField (2 ^ bits) (gf_mul bits modulus)
  is_field = field_of_bits bits modulus field

  pub are_checks : AreChecks (checks_from bits modulus n vectors)
  are_checks = record { modulus = field; words = All-from_get_or (IsWord bits n) vectors.rows [] words }

  pub vectors_over : IsOver bits vectors
  vectors_over = over_of_words bits n vectors words

  mirrored_over : IsOver bits mirror
  mirrored_over = mirror_over n vectors mirror (λ i l. (words i l).n_long) is_mirror bits vectors_over

  mirrored_entry : (i : ℕ) → i < length vectors.rows → (q : ℕ) → q < n → entry mirror i q ≡ check_at (checks_from bits modulus n vectors) i (n - 1 - q)
  mirrored_entry = mirror_entry n vectors mirror (λ i l. (words i l).n_long) is_mirror

  -- the reduced form and its pivots, by the sizes of the vectors
  abbrev AtSizes : ℕ → ℕ → Type 0
  AtSizes c r = (g : IsReduced c (entry e) r (length pivots)) × ((t : ℕ) → t < length pivots → g.pivots t ≡ get_or pivots t 0)

  reduced_at : AtSizes n (length vectors.rows)
  reduced_at =
      subst (λ (c : ℕ). AtSizes c (length vectors.rows)) (echelon.same_cols ∙ is_mirror.cols ∙ cols)
      (subst (λ (r : ℕ). AtSizes e.cols r) (echelon.same_rows ∙ is_mirror.rows) (found.reduced, found.are))

  span_at : SameSpan (gf_mul bits modulus) n (entry mirror) (length vectors.rows) (entry e) (length vectors.rows)
  span_at =
      subst (λ (c : ℕ). SameSpan (gf_mul bits modulus) c (entry mirror) (length vectors.rows) (entry e) (length vectors.rows)) (is_mirror.cols ∙ cols)
      (subst (λ (r : ℕ). SameSpan (gf_mul bits modulus) mirror.cols (entry mirror) r (entry e) r) is_mirror.rows echelon.span)

  pub pivots_within : (t : ℕ) → t < length pivots → get_or pivots t 0 < n
  pivots_within t l = let (g, at) = reduced_at in subst (λ (j : ℕ). j < n) (at t l) (g.in_range t l)

  pub pivots_rise : (t u : ℕ) → t < u → u < length pivots → get_or pivots t 0 < get_or pivots u 0
  pivots_rise t u a l =
      let (g, at) = reduced_at in
      subst (λ (j : ℕ). j < get_or pivots u 0) (at t (omega arith)) (subst (λ (j : ℕ). g.pivots t < j) (at u l) (g.rising t u a l))

  -- ---- the message places

  abbrev mirrored_column : ℕ → ℕ → ℕ
  mirrored_column q i = entry mirror i q

  column_as_mirrored : (j : ℕ) → j < n → IsCombination (gf_mul bits modulus) (length vectors.rows) (column_from_end (checks_from bits modulus n vectors)) j (column (checks_from bits modulus n vectors) (n - 1 - j))
      → IsCombination (gf_mul bits modulus) (length vectors.rows) mirrored_column j (mirrored_column j)
  column_as_mirrored j l h =
      combination_rows mirrored_column (λ q lq i li. sym (mirrored_entry i li q (omega arith)))
      (combination_same (2 ^ bits) (gf_mul bits modulus) is_field (mirrored_column j) h (λ i li. sym (mirrored_entry i li j l)))

  column_from_mirrored : (j : ℕ) → j < n → IsCombination (gf_mul bits modulus) (length vectors.rows) mirrored_column j (mirrored_column j)
      → IsCombination (gf_mul bits modulus) (length vectors.rows) (column_from_end (checks_from bits modulus n vectors)) j (column (checks_from bits modulus n vectors) (n - 1 - j))
  column_from_mirrored j l h =
      combination_rows (column_from_end (checks_from bits modulus n vectors)) (λ q lq i li. mirrored_entry i li q (omega arith))
      (combination_same (2 ^ bits) (gf_mul bits modulus) is_field (column (checks_from bits modulus n vectors) (n - 1 - j)) h (λ i li. mirrored_entry i li j l))

  -- a pivot is in the column of no message place
  pivot_place : (t : ℕ) → t < length pivots → (p : ℕ) → IsMessagePlace (checks_from bits modulus n vectors) p → get_or pivots t 0 ≢ n - 1 - p
  pivot_place t l p place d =
      let (g, at) = reduced_at in
      let low : p < n = place.position in
      let j : ℕ = n - 1 - p in
      let back : p ≡ n - 1 - j = omega arith in
      let at_end : IsCombination (gf_mul bits modulus) (length vectors.rows) mirrored_column j (mirrored_column j) =
      column_as_mirrored j (omega arith) (subst (λ (q : ℕ). IsCombination (gf_mul bits modulus) (length vectors.rows) (column_from_end (checks_from bits modulus n vectors)) j (column (checks_from bits modulus n vectors) q)) back place.depends) in
      pivot_column (2 ^ bits) (gf_mul bits modulus) is_field n (entry mirror) (length vectors.rows) (entry e) (length vectors.rows) (length pivots) mirrored_over.below echelon.over.below g span_at t l
      (subst (λ (q : ℕ). IsCombination (gf_mul bits modulus) (length vectors.rows) mirrored_column q (mirrored_column q)) (sym (at t l ∙ d)) at_end)

  -- and the other columns are those of message places
  pub free_place : (p : ℕ) → p < n → ((t : ℕ) → t < length pivots → get_or pivots t 0 ≢ n - 1 - p) → IsMessagePlace (checks_from bits modulus n vectors) p
  free_place p l apart =
      let (g, at) = reduced_at in
      let j : ℕ = n - 1 - p in
      let back : n - 1 - j ≡ p = omega arith in record {
        position = l;
        depends =
            subst (λ (q : ℕ). IsCombination (gf_mul bits modulus) (length vectors.rows) (column_from_end (checks_from bits modulus n vectors)) j (column (checks_from bits modulus n vectors) q)) back
            (column_from_mirrored j (omega arith)
            (free_column (2 ^ bits) (gf_mul bits modulus) is_field n (entry mirror) (length vectors.rows) (entry e) (length vectors.rows) (length pivots) mirrored_over.below echelon.over.below g span_at j (omega arith)
            (λ t lt d. apart t lt (sym (at t lt) ∙ d))));
      }

  test_is_free : (p : ℕ) → p < n → is_message_place (checks_from bits modulus n vectors) p ≡ not (is_pivot pivots (n - 1 - p))
  test_is_free p l = elim (cases_Bool (is_pivot pivots (n - 1 - p))) [
    | inl yes' ↦
        let (t, lt, at) = is_pivot-yes pivots (n - 1 - p) yes' in
        elim (cases_Bool (is_message_place (checks_from bits modulus n vectors) p)) [
          | inl m ↦ absurd (pivot_place t lt p (message_place-yes (checks_from bits modulus n vectors) are_checks p l m) at)
          | inr m ↦ m ∙ ap not (sym yes')
        ]
    | inr no' ↦
        message_place-from (checks_from bits modulus n vectors) are_checks p (free_place p l (λ t lt at. (let both : is_pivot pivots (n - 1 - p) ≡ true = is_pivot-from pivots (n - 1 - p) t lt at in absurd (cc))))
        ∙ ap not (sym no')
  ]

  pub places_are : free_places n pivots ≡ message_places (checks_from bits modulus n vectors)
  places_are = sym (kept-same (is_message_place (checks_from bits modulus n vectors)) (λ p. not (is_pivot pivots (n - 1 - p))) n test_is_free)

  -- ---- the codewords of single places

  module _ (places : List ℕ) (places_is : places ≡ free_places n pivots) where
    pub places_right : places ≡ message_places (checks_from bits modulus n vectors)
    places_right = places_is ∙ places_are

    pub kept : AreKept (is_message_place (checks_from bits modulus n vectors)) n places
    kept = subst (AreKept (is_message_place (checks_from bits modulus n vectors)) n) (sym places_right) (places_kept (checks_from bits modulus n vectors) are_checks)

    pub place_within : (i : ℕ) → i < length places → get_or places i 0 < n
    place_within = kept.below

    pub place_free : (i t : ℕ) → i < length places → t < length pivots → get_or pivots t 0 ≢ n - 1 - get_or places i 0
    place_free i t l lt = pivot_place t lt (get_or places i 0) (message_place-yes (checks_from bits modulus n vectors) are_checks (get_or places i 0) (kept.below i l) (kept.pass i l))

    places_apart : (i j : ℕ) → i < length places → j < length places → get_or places i 0 ≡ get_or places j 0 → i ≡ j
    places_apart i j li lj d = elim (cases_eq i j) [
      | inl same ↦ same
      | inr apart ↦ elim (cases_lt i j) [
        | inl a ↦ (let b : get_or places i 0 < get_or places j 0 = kept.rise i j a lj in absurd (omega arith))
        | inr a ↦ (let b : get_or places j 0 < get_or places i 0 = kept.rise j i (omega arith) li in absurd (omega arith))
      ]
    ]

    module _ (i : ℕ) (li : i < length places) (word : List ℕ) (is_unit : IsUnitWord e pivots n (get_or places i 0) word) where
      pub word_orthogonal : (q : ℕ) → q < length vectors.rows → dot (gf_mul bits modulus) n (slice_index word) (check_at (checks_from bits modulus n vectors) q) ≡ 0
      word_orthogonal q lq =
          let mul : ℕ → ℕ → ℕ = gf_mul bits modulus in
          let (g, at) = reduced_at in
          let p : ℕ = get_or places i 0 in
          let lp : p < n = kept.below i li in
          let j : ℕ = n - 1 - p in
          let back : n - 1 - j ≡ p = omega arith in
          let mirror_word : ℕ → ℕ = λ k. slice_index word (n - 1 - k) in
          sym (sum-reverse n (λ k. mul (slice_index word k) (check_at (checks_from bits modulus n vectors) q k)))
          ∙ sum-same n (λ k. mul (slice_index word (n - 1 - k)) (check_at (checks_from bits modulus n vectors) q (n - 1 - k))) (λ k. mul (mirror_word k) (entry mirror q k))
          (λ k lk. ap (mul (mirror_word k)) (sym (mirrored_entry q lq k lk)))
          ∙ dot_comm (2 ^ bits) mul is_field n mirror_word (entry mirror q)
          ∙ free_vector (2 ^ bits) mul is_field n (entry mirror) (length vectors.rows) (entry e) (length vectors.rows) (length pivots) mirrored_over.below echelon.over.below g span_at j mirror_word (omega arith)
          (λ t lt d. place_free i t li lt (sym (at t lt) ∙ d))
          (ap (slice_index word) back ∙ is_unit.one)
          (λ t lt. ap (λ (k : ℕ). slice_index word (n - 1 - k)) (at t lt) ∙ is_unit.at_pivots t lt)
          (λ k lk apart others. is_unit.elsewhere (n - 1 - k) (omega arith) (omega arith)
          (λ t lt d. others t lt (at t lt ∙ d ∙ (let w : n - 1 - (n - 1 - k) ≡ k = omega arith in w))))
          q lq

      pub word_below : (p : ℕ) → slice_index word p < 2 ^ bits
      word_below p = elim (cases_lt p n) [
        | inl l ↦ elim (cases_eq p (get_or places i 0)) [
          | inl d ↦ subst (λ (v : ℕ). v < 2 ^ bits) (sym (ap (slice_index word) d ∙ is_unit.one)) is_field.one_below
          | inr d ↦ elim (cases_Bool (is_pivot pivots (n - 1 - p))) [
            | inl w ↦
                let (t, lt, at) = is_pivot-yes pivots (n - 1 - p) w in
                let back : n - 1 - get_or pivots t 0 ≡ p = omega arith in
                subst (λ (v : ℕ). v < 2 ^ bits) (sym (ap (slice_index word) (sym back) ∙ is_unit.at_pivots t lt)) (echelon.over.below t (n - 1 - get_or places i 0))
            | inr w ↦
                subst (λ (v : ℕ). v < 2 ^ bits)
                (sym (is_unit.elsewhere p l d (λ t lt at. (let both : is_pivot pivots (n - 1 - p) ≡ true = is_pivot-from pivots (n - 1 - p) t lt at in absurd (cc)))))
                (pow_pos bits)
          ]
        ]
        | inr l ↦ let long : length word ≡ n = is_unit.width in subst (λ (v : ℕ). v < 2 ^ bits) (sym (get_or_past word p 0 (omega arith))) (pow_pos bits)
      ]

      pub word_at_places : (j : ℕ) → j < length places → slice_index word (get_or places j 0) ≡ unit i j
      word_at_places j lj = elim (cases_eq j i) [
        | inl d ↦ ap (λ (k : ℕ). slice_index word (get_or places k 0)) d ∙ is_unit.one ∙ sym (put-same (λ q. 0) i 1) ∙ ap (unit i) (sym d)
        | inr d ↦
            is_unit.elsewhere (get_or places j 0) (kept.below j lj) (λ same. d (places_apart j i lj li same)) (λ t lt. place_free j t lj lt)
            ∙ sym (put-other (λ q. 0) i 1 j d)
      ]
