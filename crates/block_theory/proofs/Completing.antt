-- Exactly one codeword has a message at the message places, and how many message places there are.
use Rattle.std.proofs.Common.{◌≡◌, ℕ, zero, suc, ◌+◌, ◌-◌, ◌<◌, ◌^◌, Bool, true, cond, eqb, List, [], ◌∷◌, length, map, get_or, slice_index, All, refl, sym, ◌∙◌, ap, subst, inl, inr, arith}
use Rattle.std.specs.List.{range_with_len}
use Rattle.std.proofs.lemmas.Bool.{cases_eq, cond-true, cond-false, eq-eqb, ne_eqb}
use Rattle.std.proofs.lemmas.List.{same_lists, get_or_default}
use Rattle.std.proofs.lemmas.List.FromFn.{get_or-map-range_with_len, length-map-range_with_len}
use Rattle.std.proofs.lemmas.List.Elements.{All-from_get_or}
use Rattle.field_theory.specs.Field.{IsField}
use Rattle.field_theory.specs.Sums.{count_below}
use Rattle.field_theory.proofs.Sums.{sum-same, zero_below}
use Rattle.field_theory.proofs.Counts.{count_below-same}
use Rattle.linear_theory.specs.Linear.{dot, combine, rank, in_span, IsCombination}
use Rattle.linear_theory.proofs.Spans.{in_span-from, in_span-yes, combination_zero}
use Rattle.linear_theory.proofs.Flips.{rank-flip}
use Rattle.linear_theory.proofs.Completion.{completion, completion_unique, sum-reverse, rank-count, rank-reverse}
use Rattle.gf_theory.proofs.Fields.{field_of_bits}
use Rattle.order_theory.specs.Basis.{IsWord}
use Rattle.order_theory.proofs.Shape.{row_below, word_below}
use Rattle.block_theory.specs.Checks.{ParityChecks, times_of, check_at, column, column_from_end, IsMessagePlace, is_message_place, message_places, IsInCode, IsWordOf}
use Rattle.block_theory.specs.Laws.{AreChecks}
use Rattle.block_theory.proofs.Kept.{AreKept, are_kept, length-kept}

-- ---- counts in the other direction

count_below-front : (n : ℕ) (p : ℕ → Bool) → count_below (suc n) p ≡ cond (p 0) 1 0 + count_below n (λ i. p (suc i))
count_below-front zero p = omega arith
count_below-front (suc n) p = omega (arith, count_below-front n p)

count_below-reverse : (n : ℕ) (p : ℕ → Bool) → count_below n (λ i. p (n - 1 - i)) ≡ count_below n p
count_below-reverse zero p = refl
count_below-reverse (suc n) p =
    let last : cond {A = ℕ} (p (suc n - 1 - 0)) 1 0 ≡ cond (p n) 1 0 = ap (λ (k : ℕ). cond (p k) 1 0) (omega arith) in
    let rest : count_below n (λ i. p (suc n - 1 - suc i)) ≡ count_below n (λ i. p (n - 1 - i)) = count_below-same n (λ i. p (suc n - 1 - suc i)) (λ i. p (n - 1 - i)) (λ i l. ap p (omega arith)) in
    omega (arith, count_below-front n (λ i. p (suc n - 1 - i)), last, rest, count_below-reverse n p)

-- ---- the symbol that is to stand at a place

abbrev pub symbol_for : List ℕ → List ℕ → ℕ → ℕ
symbol_for (p ∷ ps) (s ∷ ss) q = cond (eqb p q) s (symbol_for ps ss q)
symbol_for [] ss q = 0
symbol_for ps [] q = 0

symbol_for-below : (size : ℕ) (ps ss : List ℕ) (q : ℕ) → 0 < size → ((i : ℕ) → get_or ss i 0 < size) → symbol_for ps ss q < size
symbol_for-below size [] ss q some fit = some
symbol_for-below size (p ∷ ps) [] q some fit = some
symbol_for-below size (p ∷ ps) (s ∷ ss) q some fit = elim (cases_eq p q) [
  | inl e ↦ subst (λ (v : ℕ). v < size) (sym (cond-true (eqb p q) s (symbol_for ps ss q) (eq-eqb p q e))) (fit 0)
  | inr ne ↦ subst (λ (v : ℕ). v < size) (sym (cond-false (eqb p q) s (symbol_for ps ss q) (ne_eqb p q ne))) (symbol_for-below size ps ss q some (λ i. fit (suc i)))
]

-- at place number i of places that rise it is symbol number i
symbol_for-at : (ps ss : List ℕ) → length ps ≡ length ss → ((i j : ℕ) → i < j → j < length ps → get_or ps i 0 < get_or ps j 0) → (i : ℕ) → i < length ps → symbol_for ps ss (get_or ps i 0) ≡ get_or ss i 0
symbol_for-at [] ss long rise i l = absurd (omega arith)
symbol_for-at (p ∷ ps) [] long rise i l = absurd (omega arith)
symbol_for-at (p ∷ ps) (s ∷ ss) long rise zero l = cond-true (eqb p p) s (symbol_for ps ss p) (eq-eqb p p refl)
symbol_for-at (p ∷ ps) (s ∷ ss) long rise (suc i) l =
    let later : p < get_or ps i 0 = rise 0 (suc i) (omega arith) l in
    cond-false (eqb p (get_or ps i 0)) s (symbol_for ps ss (get_or ps i 0)) (ne_eqb p (get_or ps i 0) (λ e. absurd (omega arith)))
    ∙ symbol_for-at ps ss (omega arith) (λ j k a u. rise (suc j) (suc k) (omega arith) (omega arith)) i (omega arith)

module _ (c : ParityChecks) (checks : AreChecks c) where
  pub field_of_checks : IsField (2 ^ c.bits) (times_of c)
  field_of_checks = field_of_bits c.bits c.modulus checks.modulus

  pub check_below : (i p : ℕ) → check_at c i p < 2 ^ c.bits
  check_below i p = row_below c.vectors checks.words i p

  -- ---- the test for a message place

  pub message_place-from : (p : ℕ) → IsMessagePlace c p → is_message_place c p ≡ true
  unfolding is_message_place
  message_place-from p h = in_span-from (2 ^ c.bits) (times_of c) field_of_checks (length c.vectors) (column_from_end c) (c.n - 1 - p) (column c p) h.depends

  pub message_place-yes : (p : ℕ) → p < c.n → is_message_place c p ≡ true → IsMessagePlace c p
  unfolding is_message_place
  message_place-yes p l e = record {
    position = l;
    depends = in_span-yes (2 ^ c.bits) (times_of c) field_of_checks (length c.vectors) (column_from_end c) (c.n - 1 - p) (column c p) e;
  }

  pub places_kept : AreKept (is_message_place c) c.n (message_places c)
  places_kept = are_kept (is_message_place c) c.n

  -- ---- how many there are

  tests_same : (i : ℕ) → i < c.n → is_message_place c (c.n - 1 - i) ≡ in_span (2 ^ c.bits) (times_of c) (length c.vectors) (column_from_end c) i (column_from_end c i)
  unfolding is_message_place
  tests_same i l = ap (λ (k : ℕ). in_span (2 ^ c.bits) (times_of c) (length c.vectors) (column_from_end c) k (column_from_end c i)) (let back : c.n - 1 - (c.n - 1 - i) ≡ i = omega arith in back)

  pub places_count : length (message_places c) + rank (2 ^ c.bits) (times_of c) c.n (check_at c) (length c.vectors) ≡ c.n
  places_count =
      let h : ℕ = length c.vectors in
      let places : length (message_places c) ≡ count_below c.n (is_message_place c) = length-kept (is_message_place c) c.n in
      let turned : count_below c.n (λ i. is_message_place c (c.n - 1 - i)) ≡ count_below c.n (is_message_place c) = count_below-reverse c.n (is_message_place c) in
      let tests : count_below c.n (λ i. is_message_place c (c.n - 1 - i)) ≡ count_below c.n (λ i. in_span (2 ^ c.bits) (times_of c) (length c.vectors) (column_from_end c) i (column_from_end c i)) =
      count_below-same c.n (λ i. is_message_place c (c.n - 1 - i)) (λ i. in_span (2 ^ c.bits) (times_of c) (length c.vectors) (column_from_end c) i (column_from_end c i)) tests_same in
      let all : rank (2 ^ c.bits) (times_of c) (length c.vectors) (column_from_end c) c.n + count_below c.n (λ i. in_span (2 ^ c.bits) (times_of c) (length c.vectors) (column_from_end c) i (column_from_end c i)) ≡ c.n =
      rank-count (2 ^ c.bits) (times_of c) field_of_checks (length c.vectors) (column_from_end c) c.n in
      let mirrored : rank (2 ^ c.bits) (times_of c) (length c.vectors) (column_from_end c) c.n ≡ rank (2 ^ c.bits) (times_of c) (length c.vectors) (column c) c.n =
      rank-reverse (2 ^ c.bits) (times_of c) field_of_checks (length c.vectors) (column c) c.n (λ p i. check_below i p) in
      let flipped : rank (2 ^ c.bits) (times_of c) (length c.vectors) (column c) c.n ≡ rank (2 ^ c.bits) (times_of c) c.n (check_at c) (length c.vectors) =
      rank-flip (2 ^ c.bits) (times_of c) field_of_checks c.n (check_at c) (length c.vectors) check_below in
      omega (arith, places, turned, tests, all, mirrored, flipped)

  -- ---- no two codewords have the same message

  module _ (msg x y : List ℕ) (hx : IsWordOf c msg x) (hy : IsWordOf c msg y) where
    mirror_product :
        (w : List ℕ) → IsInCode c w → (i : ℕ) → i < length c.vectors
        → combine (times_of c) c.n (λ q. slice_index w (c.n - 1 - q)) (column_from_end c) i ≡ 0
    mirror_product w h i l = sum-reverse c.n (λ p. times_of c (slice_index w p) (check_at c i p)) ∙ h.orthogonal i l

    same_at : (p : ℕ) → IsMessagePlace c p → slice_index x p ≡ slice_index y p
    same_at p place =
        let (j, lj, at) = places_kept.found p place.position (message_place-from p place) in
        sym (ap (slice_index x) at) ∙ hx.carries j lj ∙ sym (hy.carries j lj) ∙ ap (slice_index y) at

    same_at_place : (q : ℕ) → q < c.n → IsCombination (times_of c) (length c.vectors) (column_from_end c) q (column_from_end c q) → slice_index x (c.n - 1 - q) ≡ slice_index y (c.n - 1 - q)
    same_at_place q l h =
        let back : q ≡ c.n - 1 - (c.n - 1 - q) = omega arith in
        same_at (c.n - 1 - q)
        (record {
          position = omega arith;
          depends = subst (λ (k : ℕ). IsCombination (times_of c) (length c.vectors) (column_from_end c) k (column c (c.n - 1 - q))) back h;
        })

    pub word_only : x ≡ y
    word_only =
        let lx : length x ≡ c.n = hx.in_code.is_word.n_long in
        let ly : length y ≡ c.n = hy.in_code.is_word.n_long in
        let same : (q : ℕ) → q < c.n → slice_index x (c.n - 1 - q) ≡ slice_index y (c.n - 1 - q) =
        completion_unique (2 ^ c.bits) (times_of c) field_of_checks (length c.vectors) (column_from_end c) c.n
        (λ q. slice_index x (c.n - 1 - q)) (λ q. slice_index y (c.n - 1 - q)) (λ q i. check_below i (c.n - 1 - q))
        (λ q l. word_below hx.in_code.is_word (c.n - 1 - q)) (λ q l. word_below hy.in_code.is_word (c.n - 1 - q)) same_at_place
        (λ i l. mirror_product x hx.in_code i l ∙ sym (mirror_product y hy.in_code i l)) in
        same_lists x y (lx ∙ sym ly)
        (λ k d l. get_or_default x k d 0 l
        ∙ subst (λ (p : ℕ). get_or x p 0 ≡ get_or y p 0) (let e : c.n - 1 - (c.n - 1 - k) ≡ k = omega arith in e) (same (c.n - 1 - k) (omega arith))
        ∙ sym (get_or_default y k d 0 (omega arith)))

  -- ---- one codeword has it

  module _ (msg : List ℕ) (fits : IsWord c.bits (length (message_places c)) msg) where
    -- the symbol that is wanted at column q from the end
    abbrev wanted : ℕ → ℕ
    wanted q = symbol_for (message_places c) msg (c.n - 1 - q)

    wanted_below : (q : ℕ) → wanted q < 2 ^ c.bits
    wanted_below q = symbol_for-below (2 ^ c.bits) (message_places c) msg (c.n - 1 - q) (zero_below (2 ^ c.bits) (times_of c) field_of_checks) (word_below fits)

    completed : (f : ℕ → ℕ) × ((i : ℕ) → i < c.n → f i < 2 ^ c.bits) × ((i : ℕ) → i < c.n → IsCombination (times_of c) (length c.vectors) (column_from_end c) i (column_from_end c i) → f i ≡ wanted i) × ((j : ℕ) → j < length c.vectors → combine (times_of c) c.n f (column_from_end c) j ≡ 0)
    completed = completion (2 ^ c.bits) (times_of c) field_of_checks (length c.vectors) (column_from_end c) c.n wanted (λ i. 0) wanted_below
        (combination_zero (2 ^ c.bits) (times_of c) field_of_checks (length c.vectors) (column_from_end c) c.n (λ i. 0) (λ j l. refl))

    module _ (f : ℕ → ℕ) (below : (i : ℕ) → i < c.n → f i < 2 ^ c.bits) (chosen : (i : ℕ) → i < c.n → IsCombination (times_of c) (length c.vectors) (column_from_end c) i (column_from_end c i) → f i ≡ wanted i)
        (zeros : (j : ℕ) → j < length c.vectors → combine (times_of c) c.n f (column_from_end c) j ≡ 0) where
      abbrev made : List ℕ
      made = map (λ p. f (c.n - 1 - p)) (range_with_len 0 c.n)

      made_long : length made ≡ c.n
      made_long = length-map-range_with_len (λ p. f (c.n - 1 - p)) 0 c.n

      made_at : (p : ℕ) → p < c.n → slice_index made p ≡ f (c.n - 1 - p)
      made_at p l = get_or-map-range_with_len (λ p. f (c.n - 1 - p)) 0 c.n p p 0 l (omega arith)

      made_symbols : All (λ a. a < 2 ^ c.bits) made
      made_symbols = All-from_get_or (λ a. a < 2 ^ c.bits) made 0 (λ i l. let long : length made ≡ c.n = made_long in subst (λ (a : ℕ). a < 2 ^ c.bits) (sym (made_at i (omega arith))) (below (c.n - 1 - i) (omega arith)))

      made_orthogonal : (i : ℕ) → i < length c.vectors → dot (times_of c) c.n (slice_index made) (check_at c i) ≡ 0
      made_orthogonal i l =
          sum-same c.n (λ p. times_of c (slice_index made p) (check_at c i p)) (λ p. times_of c (f (c.n - 1 - p)) (check_at c i (c.n - 1 - (c.n - 1 - p))))
          (λ p lp. ap (λ (a : ℕ). times_of c a (check_at c i p)) (made_at p lp) ∙ ap (λ (k : ℕ). times_of c (f (c.n - 1 - p)) (check_at c i k)) (let back : p ≡ c.n - 1 - (c.n - 1 - p) = omega arith in back))
          ∙ sum-reverse c.n (λ q. times_of c (f q) (check_at c i (c.n - 1 - q)))
          ∙ zeros i l

      made_at_place : (p : ℕ) → IsMessagePlace c p → slice_index made p ≡ symbol_for (message_places c) msg p
      made_at_place p place =
          let within : p < c.n = place.position in
          let back : c.n - 1 - (c.n - 1 - p) ≡ p = omega arith in
          made_at p within
          ∙ chosen (c.n - 1 - p) (omega arith) (subst (λ (k : ℕ). IsCombination (times_of c) (length c.vectors) (column_from_end c) (c.n - 1 - p) (column c k)) (sym back) place.depends)
          ∙ ap (λ (k : ℕ). symbol_for (message_places c) msg k) back

      made_carries : (i : ℕ) → i < length (message_places c) → slice_index made (slice_index (message_places c) i) ≡ slice_index msg i
      made_carries i l =
          made_at_place (slice_index (message_places c) i) (message_place-yes (slice_index (message_places c) i) (places_kept.below i l) (places_kept.pass i l))
          ∙ symbol_for-at (message_places c) msg (sym fits.n_long) places_kept.rise i l

      made_word : IsWordOf c msg made
      made_word = record { in_code = record { is_word = record { n_long = made_long; symbols = made_symbols }; orthogonal = made_orthogonal }; carries = made_carries }

    pub word_exists : (x : List ℕ) × IsWordOf c msg x
    word_exists = let (f, below, chosen, zeros) = completed in (made f below chosen zeros, made_word f below chosen zeros)
