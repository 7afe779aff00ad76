-- Tests that tell of a table whether it is a sound basis. The factors of each product list are handed in
use Rattle.std.proofs.Common.{◌≡◌, ◌≢◌, ◌⊎◌, ℕ, suc, ◌+◌, ◌^◌, ◌<◌, ◌≤◌, Bool, true, ◌&&◌, ◌||◌, not, eqb, ltb, leb, List, [], length, get_or, sym, ◌∙◌, ap, subst, inl, inr, arith, bit_xor, eqb-true}
use Rattle.std.specs.List.{All}
use Rattle.std.specs.Int.Bits.{xor_zero_r}
use Rattle.std.proofs.lemmas.Bool.{cases_lt, cases_eq, and_parts, or_cases, both_ways, not-true, ltb-true, leb-true, eq-eqb}
use Rattle.std.proofs.lemmas.List.{get_or_default, get_or_past}
use Rattle.field_theory.specs.Field.{IsField}
use Rattle.field_theory.specs.Sums.{all_below, unit}
use Rattle.linear_theory.specs.Linear.{combine, dot}
use Rattle.field_theory.proofs.Sums.{mul-zero}
use Rattle.linear_theory.proofs.Spans.{all_below-yes}
use Rattle.counting_theory.specs.Votes.{pairs}
use Rattle.order_theory.specs.Basis.{Basis, IsWord, IsSound, HasShape, HasSums, IsSpannedBelow, rank_at, label, vector, dual, pairs_at, sum_at, lead, product}

-- ---- tests over numbers
both_below : (n : ℕ) (p : ℕ → ℕ → Bool) → all_below n (λ i. all_below n (λ j. p i j)) ≡ true → (i j : ℕ) → i < n → j < n → p i j ≡ true
both_below n p t i j li lj = all_below-yes n (λ j. p i j) (all_below-yes n (λ i. all_below n (λ j. p i j)) t i li) j lj

abbrev pub rise_test : ℕ → (ℕ → ℕ) → Bool
rise_test n f = all_below n (λ j. all_below j (λ i. ltb (f i) (f j)))

rises : (n : ℕ) (f : ℕ → ℕ) → rise_test n f ≡ true → (i j : ℕ) → i < j → j < n → f i < f j
rises n f t i j l lj = ltb-true (f i) (f j) (all_below-yes j (λ i. ltb (f i) (f j)) (all_below-yes n (λ j. all_below j (λ i. ltb (f i) (f j))) t j lj) i l)

abbrev pub words_test : ℕ → ℕ → List (List ℕ) → Bool
words_test bits n rows = all_below n (λ k. eqb (length (get_or rows k [])) n && all_below n (λ p. ltb (get_or (get_or rows k []) p 0) (2 ^ bits)))

words : (bits n : ℕ) (rows : List (List ℕ)) → length rows ≡ n → words_test bits n rows ≡ true → All (IsWord bits n) rows
words bits n rows e t k d l =
    let at : (eqb (length (get_or rows k [])) n ≡ true) × (all_below n (λ p. ltb (get_or (get_or rows k []) p 0) (2 ^ bits)) ≡ true) =
    and_parts (eqb (length (get_or rows k [])) n) (all_below n (λ p. ltb (get_or (get_or rows k []) p 0) (2 ^ bits)))
    (all_below-yes n (λ k. eqb (length (get_or rows k [])) n && all_below n (λ p. ltb (get_or (get_or rows k []) p 0) (2 ^ bits))) t k (omega arith)) in
    let long : length (get_or rows k []) ≡ n = eqb-true (length (get_or rows k [])) n at.0 in
    let word : IsWord bits n (get_or rows k []) = record {
      n_long = long;
      symbols = λ p z u. subst (λ (x : ℕ). x < 2 ^ bits) (get_or_default (get_or rows k []) p 0 z u)
          (ltb-true (get_or (get_or rows k []) p 0) (2 ^ bits) (all_below-yes n (λ p. ltb (get_or (get_or rows k []) p 0) (2 ^ bits)) at.1 p (omega arith)));
    } in
    subst (λ (row : List ℕ). IsWord bits n row) (get_or_default rows k [] d l) word

abbrev pub rows_test : ℕ → List (List ℕ) → Bool
rows_test n rows = all_below n (λ k. eqb (length (get_or rows k [])) n)

row_lengths : (n : ℕ) (rows : List (List ℕ)) → length rows ≡ n → rows_test n rows ≡ true → All (λ row. length row ≡ n) rows
row_lengths n rows e t k d l =
    subst (λ (row : List ℕ). length row ≡ n) (get_or_default rows k [] d l) (eqb-true (length (get_or rows k [])) n (all_below-yes n (λ k. eqb (length (get_or rows k [])) n) t k (omega arith)))

-- each smaller neighbour of a pair with a sum has a smaller one
abbrev pub sums_test : Basis → Bool
sums_test b = all_below b.n (λ i. all_below b.n (λ j. eqb (sum_at b i j) (sum_at b j i) && all_below (suc i) (λ q. all_below (suc j) (λ p. (leb b.count (sum_at b i j) || ltb (sum_at b q p) (sum_at b i j)) || eqb (q + p) (i + j)))))

abbrev pub numbers_test : Basis → Bool
numbers_test b = (leb 1 b.n && leb b.n 1024) && (eqb (length b.ranks) b.n && (eqb (length b.labels) b.n && (eqb (length b.vectors) b.n && (eqb (length b.duals) b.n && (eqb (length b.pair_counts) b.n && (eqb (length b.sums) b.n && eqb (length b.leads) b.n))))))

abbrev pub lists_test : Basis → Bool
lists_test b = words_test b.bits b.n b.vectors && (words_test b.bits b.n b.duals && (words_test b.bits b.n b.leads && rows_test b.n b.sums))

abbrev pub orders_test : Basis → Bool
orders_test b = rise_test b.n (rank_at b) && (rise_test b.n (label b) && all_below b.n (λ k. ltb (rank_at b k) b.count))

abbrev pub shape_test : Basis → Bool
shape_test b = numbers_test b && (lists_test b && (orders_test b && sums_test b))

abbrev pub dual_test : (ℕ → ℕ → ℕ) → Basis → Bool
dual_test mul b = all_below b.n (λ i. all_below b.n (λ j. eqb (dot mul b.n (vector b i) (dual b j)) (unit i j)))

abbrev pub count_test : Basis → Bool
count_test b = all_below b.n (λ k. eqb (pairs_at b k) (pairs b.n (sum_at b) (rank_at b k)) && leb 1 (pairs_at b k))

-- the member whose sum a pair is, or n, and the factors of the rest of its product
abbrev pub member_of : List (List ℕ) → ℕ → ℕ → ℕ
member_of which i j = get_or (get_or which i []) j 0

abbrev pub factor : List (List (List ℕ)) → ℕ → ℕ → ℕ → ℕ
factor table i j k = get_or (get_or (get_or table i []) j []) k 0

abbrev pub none_test : Basis → List (List ℕ) → ℕ → ℕ → Bool
none_test b which i j = leb b.n (member_of which i j) && all_below b.n (λ k. not (eqb (sum_at b i j) (rank_at b k)))

abbrev pub some_test : Basis → List (List ℕ) → ℕ → ℕ → Bool
some_test b which i j = ltb (member_of which i j) b.n && (eqb (sum_at b i j) (rank_at b (member_of which i j)) && not (eqb (lead b i j) 0))

abbrev pub span_test : (ℕ → ℕ → ℕ) → Basis → List (List ℕ) → List (List (List ℕ)) → ℕ → ℕ → Bool
span_test mul b which table i j =
    all_below b.n (λ p. eqb (bit_xor (product mul b i j p) (mul (lead b i j) (vector b (member_of which i j) p))) (combine mul b.n (factor table i j) (vector b) p))
    && all_below b.n (λ m. ltb (rank_at b m) (sum_at b i j) || eqb (factor table i j m) 0)

abbrev pub pair_test : (ℕ → ℕ → ℕ) → Basis → List (List ℕ) → List (List (List ℕ)) → ℕ → ℕ → Bool
pair_test mul b which table i j = (none_test b which i j || some_test b which i j) && (leb b.count (sum_at b i j) || span_test mul b which table i j)

module _ (mul : ℕ → ℕ → ℕ) (b : Basis) (which : List (List ℕ)) (table : List (List (List ℕ))) where
  shape_from : shape_test b ≡ true → dual_test mul b ≡ true → HasShape mul b
  shape_from t u =
      let s = and_parts (numbers_test b) (lists_test b && (orders_test b && sums_test b)) t in
      let s1 = and_parts (lists_test b) (orders_test b && sums_test b) s.1 in
      let s2 = and_parts (orders_test b) (sums_test b) s1.1 in
      let o1 = and_parts (rise_test b.n (rank_at b)) (rise_test b.n (label b) && all_below b.n (λ k. ltb (rank_at b k) b.count)) s2.0 in
      let o2 = and_parts (rise_test b.n (label b)) (all_below b.n (λ k. ltb (rank_at b k) b.count)) o1.1 in
      let l1 = and_parts (words_test b.bits b.n b.vectors) (words_test b.bits b.n b.duals && (words_test b.bits b.n b.leads && rows_test b.n b.sums)) s1.0 in
      let l2 = and_parts (words_test b.bits b.n b.duals) (words_test b.bits b.n b.leads && rows_test b.n b.sums) l1.1 in
      let l3 = and_parts (words_test b.bits b.n b.leads) (rows_test b.n b.sums) l2.1 in
      let n0 = and_parts (leb 1 b.n && leb b.n 1024) (eqb (length b.ranks) b.n && (eqb (length b.labels) b.n && (eqb (length b.vectors) b.n && (eqb (length b.duals) b.n && (eqb (length b.pair_counts) b.n && (eqb (length b.sums) b.n && eqb (length b.leads) b.n)))))) s.0 in
      let n1 = and_parts (leb 1 b.n) (leb b.n 1024) n0.0 in
      let m1 = and_parts (eqb (length b.ranks) b.n) (eqb (length b.labels) b.n && (eqb (length b.vectors) b.n && (eqb (length b.duals) b.n && (eqb (length b.pair_counts) b.n && (eqb (length b.sums) b.n && eqb (length b.leads) b.n))))) n0.1 in
      let m2 = and_parts (eqb (length b.labels) b.n) (eqb (length b.vectors) b.n && (eqb (length b.duals) b.n && (eqb (length b.pair_counts) b.n && (eqb (length b.sums) b.n && eqb (length b.leads) b.n)))) m1.1 in
      let m3 = and_parts (eqb (length b.vectors) b.n) (eqb (length b.duals) b.n && (eqb (length b.pair_counts) b.n && (eqb (length b.sums) b.n && eqb (length b.leads) b.n))) m2.1 in
      let m4 = and_parts (eqb (length b.duals) b.n) (eqb (length b.pair_counts) b.n && (eqb (length b.sums) b.n && eqb (length b.leads) b.n)) m3.1 in
      let m5 = and_parts (eqb (length b.pair_counts) b.n) (eqb (length b.sums) b.n && eqb (length b.leads) b.n) m4.1 in
      let m6 = and_parts (eqb (length b.sums) b.n) (eqb (length b.leads) b.n) m5.1 in
      let vs : length b.vectors ≡ b.n = eqb-true (length b.vectors) b.n m3.0 in
      let ds : length b.duals ≡ b.n = eqb-true (length b.duals) b.n m4.0 in
      let ss : length b.sums ≡ b.n = eqb-true (length b.sums) b.n m6.0 in
      let ls : length b.leads ≡ b.n = eqb-true (length b.leads) b.n m6.1 in
      record {
        some_members = leb-true 1 b.n n1.0;
        few_members = leb-true b.n 1024 n1.1;
        n_ranks = eqb-true (length b.ranks) b.n m1.0;
        n_labels = eqb-true (length b.labels) b.n m2.0;
        n_vectors = vs;
        n_duals = ds;
        n_pair_counts = eqb-true (length b.pair_counts) b.n m5.0;
        n_sums = ss;
        n_leads = ls;
        vector_words = words b.bits b.n b.vectors vs l1.0;
        dual_words = words b.bits b.n b.duals ds l2.0;
        lead_words = words b.bits b.n b.leads ls l3.0;
        sum_rows = row_lengths b.n b.sums ss l3.1;
        ranks_rise = rises b.n (rank_at b) o1.0;
        labels_rise = rises b.n (label b) o2.0;
        ranks_below = λ k l. ltb-true (rank_at b k) b.count (all_below-yes b.n (λ k. ltb (rank_at b k) b.count) o2.1 k l);
        duals_fit = record { products = λ i j li lj. eqb-true (dot mul b.n (vector b i) (dual b j)) (unit i j) (both_below b.n (λ i j. eqb (dot mul b.n (vector b i) (dual b j)) (unit i j)) u i j li lj) };
      }

  sums_from : shape_test b ≡ true → HasSums b
  sums_from t =
      let s = and_parts (numbers_test b) (lists_test b && (orders_test b && sums_test b)) t in
      let s1 = and_parts (lists_test b) (orders_test b && sums_test b) s.1 in
      let s2 = and_parts (orders_test b) (sums_test b) s1.1 in
      record {
        commute = λ i j li lj. eqb-true (sum_at b i j) (sum_at b j i) (parts s2.1 i j li lj).0;
        rise = record {
          rises = λ i j q p li lj lq lp strict few.
              elim (or_cases (leb b.count (sum_at b i j) || ltb (sum_at b q p) (sum_at b i j)) (eqb (q + p) (i + j)) (all_below-yes (suc j) (λ p. (leb b.count (sum_at b i j) || ltb (sum_at b q p) (sum_at b i j)) || eqb (q + p) (i + j)) (all_below-yes (suc i) (λ q. all_below (suc j) (λ p. (leb b.count (sum_at b i j) || ltb (sum_at b q p) (sum_at b i j)) || eqb (q + p) (i + j))) (parts s2.1 i j li lj).1 q (omega arith)) p (omega arith))) [
                | inl e ↦ elim (or_cases (leb b.count (sum_at b i j)) (ltb (sum_at b q p) (sum_at b i j)) e) [
                  | inl f ↦ absurd (omega (arith, leb-true b.count (sum_at b i j) f))
                  | inr f ↦ ltb-true (sum_at b q p) (sum_at b i j) f
                ]
                | inr e ↦ absurd (omega (arith, eqb-true (q + p) (i + j) e))
              ];
        };
      }
    where
      parts : sums_test b ≡ true → (i j : ℕ) → i < b.n → j < b.n → (eqb (sum_at b i j) (sum_at b j i) ≡ true) × (all_below (suc i) (λ q. all_below (suc j) (λ p. (leb b.count (sum_at b i j) || ltb (sum_at b q p) (sum_at b i j)) || eqb (q + p) (i + j))) ≡ true)
      parts v i j li lj =
          and_parts (eqb (sum_at b i j) (sum_at b j i)) (all_below (suc i) (λ q. all_below (suc j) (λ p. (leb b.count (sum_at b i j) || ltb (sum_at b q p) (sum_at b i j)) || eqb (q + p) (i + j))))
          (both_below b.n (λ i j. eqb (sum_at b i j) (sum_at b j i) && all_below (suc i) (λ q. all_below (suc j) (λ p. (leb b.count (sum_at b i j) || ltb (sum_at b q p) (sum_at b i j)) || eqb (q + p) (i + j)))) v i j li lj)

  spanned : (i j : ℕ) → span_test mul b which table i j ≡ true → IsSpannedBelow mul b (sum_at b i j) (λ p. bit_xor (product mul b i j p) (mul (lead b i j) (vector b (member_of which i j) p)))
  spanned i j t =
      let both = and_parts (all_below b.n (λ p. eqb (bit_xor (product mul b i j p) (mul (lead b i j) (vector b (member_of which i j) p))) (combine mul b.n (factor table i j) (vector b) p))) (all_below b.n (λ m. ltb (rank_at b m) (sum_at b i j) || eqb (factor table i j m) 0)) t in
      record {
        factors = factor table i j;
        only_below = λ k l s. elim (or_cases (ltb (rank_at b k) (sum_at b i j)) (eqb (factor table i j k) 0) (all_below-yes b.n (λ m. ltb (rank_at b m) (sum_at b i j) || eqb (factor table i j m) 0) both.1 k l)) [
          | inl e ↦ absurd (omega (arith, ltb-true (rank_at b k) (sum_at b i j) e))
          | inr e ↦ eqb-true (factor table i j k) 0 e
        ];
        is_sum = λ p l. eqb-true (bit_xor (product mul b i j p) (mul (lead b i j) (vector b (member_of which i j) p))) (combine mul b.n (factor table i j) (vector b) p)
            (all_below-yes b.n (λ p. eqb (bit_xor (product mul b i j p) (mul (lead b i j) (vector b (member_of which i j) p))) (combine mul b.n (factor table i j) (vector b) p)) both.0 p l);
      }

  -- a pair whose sum is below the count
  abbrev PairFacts : ℕ → ℕ → Type 0
  PairFacts i j = ((none_test b which i j ≡ true) ⊎ (some_test b which i j ≡ true)) × (span_test mul b which table i j ≡ true)

  pair_facts : (i j : ℕ) → pair_test mul b which table i j ≡ true → sum_at b i j < b.count → PairFacts i j
  pair_facts i j t few =
      let both = and_parts (none_test b which i j || some_test b which i j) (leb b.count (sum_at b i j) || span_test mul b which table i j) t in (
        or_cases (none_test b which i j) (some_test b which i j) both.0,
        elim (or_cases (leb b.count (sum_at b i j)) (span_test mul b which table i j) both.1) [
          | inl e ↦ absurd (omega (arith, leb-true b.count (sum_at b i j) e))
          | inr e ↦ e
        ],
      )

  not_member : (i j k : ℕ) → none_test b which i j ≡ true → k < b.n → sum_at b i j ≡ rank_at b k → ⊥
  not_member i j k t l e =
      let both = and_parts (leb b.n (member_of which i j)) (all_below b.n (λ k. not (eqb (sum_at b i j) (rank_at b k)))) t in
      both_ways (eqb (sum_at b i j) (rank_at b k)) (not-true (eqb (sum_at b i j) (rank_at b k)) (all_below-yes b.n (λ k. not (eqb (sum_at b i j) (rank_at b k))) both.1 k l)) (eq-eqb (sum_at b i j) (rank_at b k) e)

  some_parts : (i j : ℕ) → some_test b which i j ≡ true → (member_of which i j < b.n) × (sum_at b i j ≡ rank_at b (member_of which i j)) × (lead b i j ≢ 0)
  some_parts i j t =
      let one = and_parts (ltb (member_of which i j) b.n) (eqb (sum_at b i j) (rank_at b (member_of which i j)) && not (eqb (lead b i j) 0)) t in
      let two = and_parts (eqb (sum_at b i j) (rank_at b (member_of which i j))) (not (eqb (lead b i j) 0)) one.1 in (
        ltb-true (member_of which i j) b.n one.0,
        eqb-true (sum_at b i j) (rank_at b (member_of which i j)) two.0,
        λ z. both_ways (eqb (lead b i j) 0) (not-true (eqb (lead b i j) 0) two.1) (eq-eqb (lead b i j) 0 z),
      )

  same_member : HasShape mul b → (m k : ℕ) → m < b.n → k < b.n → rank_at b m ≡ rank_at b k → m ≡ k
  same_member s m k lm lk e = elim (cases_lt m k) [
    | inl l ↦ let u : rank_at b m < rank_at b k = s.ranks_rise m k l lk in absurd (omega arith)
    | inr g ↦ elim (cases_eq m k) [
      | inl f ↦ f
      | inr d ↦ let u : rank_at b k < rank_at b m = s.ranks_rise k m (omega arith) lm in absurd (omega arith)
    ]
  ]

  pub sound_from_tests : IsField (2 ^ b.bits) mul → shape_test b ≡ true → dual_test mul b ≡ true → count_test b ≡ true → all_below b.n (λ i. all_below b.n (λ j. pair_test mul b which table i j)) ≡ true → IsSound mul b
  sound_from_tests field t u v w =
      let shape : HasShape mul b = shape_from t u in
      record {
        field = field;
        shape = shape;
        sums_order = sums_from t;
        member_products = λ i j k li lj lk e.
            let few : rank_at b k < b.count = shape.ranks_below k lk in
            let f : PairFacts i j = pair_facts i j (both_below b.n (λ i j. pair_test mul b which table i j) w i j li lj) (omega arith) in
            elim f.0 [
              | inl x ↦ absurd (not_member i j k x lk e)
              | inr x ↦
                  let p : (member_of which i j < b.n) × (sum_at b i j ≡ rank_at b (member_of which i j)) × (lead b i j ≢ 0) = some_parts i j x in
                  let same : member_of which i j ≡ k = same_member shape (member_of which i j) k p.0 lk (sym p.1 ∙ e) in
                  record {
                    lead_not_zero = p.2;
                    rest = subst (λ (s : ℕ). IsSpannedBelow mul b s (λ p. bit_xor (product mul b i j p) (mul (lead b i j) (vector b k p)))) e
                        (subst (λ (m : ℕ). IsSpannedBelow mul b (sum_at b i j) (λ p. bit_xor (product mul b i j p) (mul (lead b i j) (vector b m p)))) same (spanned i j f.1));
                  }
            ];
        other_products = λ i j li lj few none.
            let f : PairFacts i j = pair_facts i j (both_below b.n (λ i j. pair_test mul b which table i j) w i j li lj) few in
            elim f.0 [
              | inl x ↦
                  let past : b.n ≤ member_of which i j = leb-true b.n (member_of which i j) (and_parts (leb b.n (member_of which i j)) (all_below b.n (λ k. not (eqb (sum_at b i j) (rank_at b k)))) x).0 in
                  let gone : (p : ℕ) → vector b (member_of which i j) p ≡ 0 = λ p. ap (λ (row : List ℕ). get_or row p 0) (get_or_past b.vectors (member_of which i j) [] (omega (arith, shape.n_vectors))) in
                  let s : IsSpannedBelow mul b (sum_at b i j) (λ p. bit_xor (product mul b i j p) (mul (lead b i j) (vector b (member_of which i j) p))) = spanned i j f.1 in
                  record {
                    factors = s.factors;
                    only_below = s.only_below;
                    is_sum = λ p l.
                        sym (ap (λ (x : ℕ). bit_xor (product mul b i j p) (mul (lead b i j) x)) (gone p) ∙ ap (λ (x : ℕ). bit_xor (product mul b i j p) x) (mul-zero (2 ^ b.bits) mul field (lead b i j)) ∙ xor_zero_r (product mul b i j p))
                        ∙ s.is_sum p l;
                  }
              | inr x ↦
                  let p : (member_of which i j < b.n) × (sum_at b i j ≡ rank_at b (member_of which i j)) × (lead b i j ≢ 0) = some_parts i j x in
                  absurd (none (member_of which i j) p.0 p.1)
            ];
        pairs_counted = λ k l.
            let p = and_parts (eqb (pairs_at b k) (pairs b.n (sum_at b) (rank_at b k))) (leb 1 (pairs_at b k)) (all_below-yes b.n (λ k. eqb (pairs_at b k) (pairs b.n (sum_at b) (rank_at b k)) && leb 1 (pairs_at b k)) v k l) in
            record { counted = eqb-true (pairs_at b k) (pairs b.n (sum_at b) (rank_at b k)) p.0; some_pair = leb-true 1 (pairs_at b k) p.1 };
      }
