-- What the laws of the functions give of the products of a basis
use Rattle.std.proofs.Common.{◌+◌, ◌≡◌, ◌≢◌, ℕ, zero, suc, ◌^◌, ◌<◌, ◌≤◌, sym, ◌∙◌, ap, subst, refl, inl, inr, arith, bit_xor, eqb}
use Rattle.std.proofs.lemmas.Bool.{cases_eq, cases_lt, cond-true, eq-eqb}
use Rattle.field_theory.specs.Field.{IsField}
use Rattle.field_theory.specs.Sums.{unit}
use Rattle.linear_theory.specs.Linear.{combine, IsCombination}
use Rattle.field_theory.proofs.Sums.{sum-same, sum-xor, sum-zero, mul-sum, zero-mul, mul-zero, xor_mul, eq_or_below}
use Rattle.linear_theory.proofs.Spans.{put-other, xor_back, combination_zero, combination_same, combination_xor, combination_scale, combination_split, combination_row, combination_through}
use Rattle.linear_theory.proofs.Ranks.{combination_rest, combination_divide}
use Rattle.linear_theory.proofs.Duals.{unit_sum}
use Rattle.field_theory.specs.Sums.{total, one_if, count_pairs}
use Rattle.counting_theory.specs.Votes.{pairs}
use Rattle.field_theory.proofs.Totals.{count_same, le-total}
use Rattle.order_theory.specs.Basis.{Basis, IsSpannedBelow, HasLead, HasSums, rank_at, vector, sum_at, lead, product, pairs_at}
use Rattle.order_theory.specs.Domains.{IsOrdered, HasMembers}
use Rattle.order_theory.specs.Laws.{OriginLaw, SoundLaw}
use Rattle.order_theory.proofs.Members.{pairs_members}
use Rattle.order_theory.proofs.OldSums.{old_sum}
use Rattle.order_theory.proofs.Shape.{cases_value}

one_pair : (n : ℕ) (f : ℕ → ℕ → ℕ) (s i j : ℕ) → i < n → j < n → f i j ≡ s → 1 ≤ pairs n f s
unfolding pairs count_pairs
one_pair n f s i j li lj e =
    let one : one_if (eqb (f i j) s) ≡ 1 = cond-true (eqb (f i j) s) 1 0 (eq-eqb (f i j) s e) in
    omega (arith, le-total n (λ q. one_if (eqb (f i q) s)) j lj, le-total n (λ a. total n (λ q. one_if (eqb (f a q) s))) i li)

same_pairs : (n : ℕ) (f g : ℕ → ℕ → ℕ) (s : ℕ) → ((i j : ℕ) → i < n → j < n → f i j ≡ g i j) → pairs n f s ≡ pairs n g s
unfolding pairs
same_pairs n f g s e = count_same n (λ i j. eqb (f i j) s) (λ i j. eqb (g i j) s) (λ i j li lj. ap (λ (x : ℕ). one_if (eqb x s)) (e i j li lj))

module _ (mul : ℕ → ℕ → ℕ) (b : Basis) (field : IsField (2 ^ b.bits) mul) where
  spanned_zero : (s : ℕ) (v : ℕ → ℕ) → ((p : ℕ) → p < b.n → v p ≡ 0) → IsSpannedBelow mul b s v
  spanned_zero s v z = record {
    factors = λ k. 0;
    only_below = λ k l u. refl;
    is_sum = λ p l. z p l ∙ sym (sum-zero b.n (λ k. mul 0 (vector b k p)) (λ k m. zero-mul (2 ^ b.bits) mul field (vector b k p)));
  }

  spanned_same : (s : ℕ) (v w : ℕ → ℕ) → IsSpannedBelow mul b s v → ((p : ℕ) → p < b.n → v p ≡ w p) → IsSpannedBelow mul b s w
  spanned_same s v w h e = record { factors = h.factors; only_below = h.only_below; is_sum = λ p l. sym (e p l) ∙ h.is_sum p l }

  spanned_more : (s t : ℕ) (v : ℕ → ℕ) → s ≤ t → IsSpannedBelow mul b s v → IsSpannedBelow mul b t v
  spanned_more s t v l h = record { factors = h.factors; only_below = λ k m u. h.only_below k m (omega arith); is_sum = h.is_sum }

  spanned_scale : (x s : ℕ) (v : ℕ → ℕ) → IsSpannedBelow mul b s v → IsSpannedBelow mul b s (λ p. mul x (v p))
  spanned_scale x s v h = record {
    factors = λ k. mul x (h.factors k);
    only_below = λ k l u. ap (λ (y : ℕ). mul x y) (h.only_below k l u) ∙ mul-zero (2 ^ b.bits) mul field x;
    is_sum = λ p l.
        ap (λ (y : ℕ). mul x y) (h.is_sum p l) ∙ mul-sum (2 ^ b.bits) mul field x b.n (λ k. mul (h.factors k) (vector b k p))
        ∙ sum-same b.n (λ k. mul x (mul (h.factors k) (vector b k p))) (λ k. mul (mul x (h.factors k)) (vector b k p)) (λ k m. sym (field.mul_assoc x (h.factors k) (vector b k p)));
  }

  spanned_xor : (s : ℕ) (v w : ℕ → ℕ) → IsSpannedBelow mul b s v → IsSpannedBelow mul b s w → IsSpannedBelow mul b s (λ p. bit_xor (v p) (w p))
  spanned_xor s v w h g = record {
    factors = λ k. bit_xor (h.factors k) (g.factors k);
    only_below = λ k l u. ap (λ (y : ℕ). bit_xor y (g.factors k)) (h.only_below k l u) ∙ ap (λ (y : ℕ). bit_xor 0 y) (g.only_below k l u);
    is_sum = λ p l.
        ap (λ (y : ℕ). bit_xor y (w p)) (h.is_sum p l) ∙ ap (λ (y : ℕ). bit_xor (combine mul b.n h.factors (vector b) p) y) (g.is_sum p l)
        ∙ sym (sum-xor b.n (λ k. mul (h.factors k) (vector b k p)) (λ k. mul (g.factors k) (vector b k p)))
        ∙ sum-same b.n (λ k. bit_xor (mul (h.factors k) (vector b k p)) (mul (g.factors k) (vector b k p))) (λ k. mul (bit_xor (h.factors k) (g.factors k)) (vector b k p))
        (λ k m. sym (xor_mul (2 ^ b.bits) mul field (h.factors k) (g.factors k) (vector b k p)));
  }

  -- what is a combination of functions that are spanned is spanned
  spanned_through : (ev : ℕ → ℕ → ℕ) (r s : ℕ) (v : ℕ → ℕ) → ((u : ℕ) → u < r → IsSpannedBelow mul b s (ev u)) → IsCombination mul b.n ev r v → IsSpannedBelow mul b s v
  spanned_through ev zero s v all h = spanned_zero s v h.is_sum
  spanned_through ev (suc r) s v all h =
      let parts : (x : ℕ) × (x < 2 ^ b.bits) × IsCombination mul b.n ev r (λ j. bit_xor (v j) (mul x (ev r j))) = combination_split (2 ^ b.bits) mul field h in
      let front : IsSpannedBelow mul b s (λ j. bit_xor (v j) (mul parts.0 (ev r j))) = spanned_through ev r s (λ j. bit_xor (v j) (mul parts.0 (ev r j))) (λ u l. all u (omega arith)) parts.2 in
      let last : IsSpannedBelow mul b s (λ j. mul parts.0 (ev r j)) = spanned_scale parts.0 s (ev r) (all r (omega arith)) in
      spanned_same s (λ j. bit_xor (bit_xor (v j) (mul parts.0 (ev r j))) (mul parts.0 (ev r j))) v
      (spanned_xor s (λ j. bit_xor (v j) (mul parts.0 (ev r j))) (λ j. mul parts.0 (ev r j)) front last) (λ j l. xor_back (v j) (mul parts.0 (ev r j)))

  module _ (ev sum lead' : ℕ → ℕ → ℕ) (o : IsOrdered (2 ^ b.bits) mul b.n b.count ev sum lead') (m : HasMembers mul b ev sum lead') where
    -- a member is spanned by itself
    spanned_member : (k : ℕ) → k < b.n → IsSpannedBelow mul b (suc (rank_at b k)) (ev (rank_at b k))
    spanned_member k lk = record {
      factors = unit k;
      only_below = λ q l u. put-other (λ i. 0) k 1 q (λ e. let f : rank_at b q ≡ rank_at b k = ap (λ (i : ℕ). rank_at b i) e in omega arith);
      is_sum = λ p l. sym (unit_sum (2 ^ b.bits) mul field b.n (λ q. vector b q p) k lk ∙ ap (λ (y : ℕ). mul 1 y) (m.vectors k p lk l) ∙ field.one_mul (ev (rank_at b k) p) (o.symbols (rank_at b k) p));
    }

    pub spanned_all : (r : ℕ) → r ≤ b.count → (u : ℕ) → u < r → IsSpannedBelow mul b (suc u) (ev u)
    spanned_all zero l u lu = absurd (omega arith)
    spanned_all (suc r) l u lu = elim (eq_or_below u r lu) [
      | inr d ↦ spanned_all r (omega arith) u d
      | inl e ↦ subst (λ (q : ℕ). IsSpannedBelow mul b (suc q) (ev q)) (sym e) (elim (cases_value b.n (rank_at b) r) [
        | inl w ↦ subst (λ (q : ℕ). IsSpannedBelow mul b (suc q) (ev q)) (sym w.2) (spanned_member w.0 w.1)
        | inr d ↦ spanned_through ev r (suc r) (ev r) (λ q lq. spanned_more (suc q) (suc r) (ev q) (omega arith) (spanned_all r (omega arith) q lq)) (m.others r (omega arith) d)
      ])
    ]

    -- combinations of the functions before s are combinations of the members before s
    spanned_before : (s : ℕ) (v : ℕ → ℕ) → s ≤ b.count → IsCombination mul b.n ev s v → IsSpannedBelow mul b s v
    spanned_before s v l h = spanned_through ev s s v (λ u lu. spanned_more (suc u) s (ev u) (omega arith) (spanned_all b.count (omega arith) u (omega arith))) h

    -- the products of two members, as products of functions
    product_is : (i j p : ℕ) → i < b.n → j < b.n → p < b.n → product mul b i j p ≡ mul (ev (rank_at b i) p) (ev (rank_at b j) p)
    product_is i j p li lj lp = ap (λ (y : ℕ). mul y (vector b j p)) (m.vectors i p li lp) ∙ ap (λ (y : ℕ). mul (ev (rank_at b i) p) y) (m.vectors j p lj lp)

    pub member_lead : (i j k : ℕ) → i < b.n → j < b.n → k < b.n → sum_at b i j ≡ rank_at b k → HasLead mul b i j k
    member_lead i j k li lj lk e =
        let I : ℕ = rank_at b i in
        let J : ℕ = rank_at b j in
        let lI : rank_at b i < b.count = m.ranks_below i li in
        let lJ : rank_at b j < b.count = m.ranks_below j lj in
        let lK : rank_at b k < b.count = m.ranks_below k lk in
        let is : sum (rank_at b i) (rank_at b j) ≡ rank_at b k = sym (m.sums i j li lj) ∙ e in
        let few : sum (rank_at b i) (rank_at b j) < b.count = omega arith in
        let low : sum_at b i j < b.count = omega arith in
        let same : lead b i j ≡ lead' (rank_at b i) (rank_at b j) = m.leads i j li lj low in
        let rest : IsSpannedBelow mul b (sum (rank_at b i) (rank_at b j)) (λ p. bit_xor (mul (ev (rank_at b i) p) (ev (rank_at b j) p)) (mul (lead' (rank_at b i) (rank_at b j)) (ev (sum (rank_at b i) (rank_at b j)) p))) =
        spanned_before (sum (rank_at b i) (rank_at b j)) (λ p. bit_xor (mul (ev (rank_at b i) p) (ev (rank_at b j) p)) (mul (lead' (rank_at b i) (rank_at b j)) (ev (sum (rank_at b i) (rank_at b j)) p)))
        (omega arith) (o.products (rank_at b i) (rank_at b j) lI lJ few) in
        record {
          lead_not_zero = λ z. o.lead_not_zero (rank_at b i) (rank_at b j) lI lJ few (sym same ∙ z);
          rest = subst (λ (s : ℕ). IsSpannedBelow mul b s (λ p. bit_xor (product mul b i j p) (mul (lead b i j) (vector b k p)))) is
              (spanned_same (sum (rank_at b i) (rank_at b j)) (λ p. bit_xor (mul (ev (rank_at b i) p) (ev (rank_at b j) p)) (mul (lead' (rank_at b i) (rank_at b j)) (ev (sum (rank_at b i) (rank_at b j)) p)))
              (λ p. bit_xor (product mul b i j p) (mul (lead b i j) (vector b k p))) rest
              (λ p l.
              sym (ap (λ (y : ℕ). bit_xor y (mul (lead b i j) (vector b k p))) (product_is i j p li lj l)
              ∙ ap (λ (y : ℕ). bit_xor (mul (ev (rank_at b i) p) (ev (rank_at b j) p)) (mul y (vector b k p))) same
              ∙ ap (λ (y : ℕ). bit_xor (mul (ev (rank_at b i) p) (ev (rank_at b j) p)) (mul (lead' (rank_at b i) (rank_at b j)) y)) (m.vectors k p lk l ∙ ap (λ (q : ℕ). ev q p) (sym is)))));
        }

    pub other_product : (i j : ℕ) → i < b.n → j < b.n → sum_at b i j < b.count → ((k : ℕ) → k < b.n → sum_at b i j ≢ rank_at b k) → IsSpannedBelow mul b (sum_at b i j) (product mul b i j)
    other_product i j li lj low none =
        let lI : rank_at b i < b.count = m.ranks_below i li in
        let lJ : rank_at b j < b.count = m.ranks_below j lj in
        let is : sum_at b i j ≡ sum (rank_at b i) (rank_at b j) = m.sums i j li lj in
        let few : sum (rank_at b i) (rank_at b j) < b.count = omega arith in
        let rest : IsCombination mul b.n ev (sum (rank_at b i) (rank_at b j)) (λ p. bit_xor (mul (ev (rank_at b i) p) (ev (rank_at b j) p)) (mul (lead' (rank_at b i) (rank_at b j)) (ev (sum (rank_at b i) (rank_at b j)) p))) =
        o.products (rank_at b i) (rank_at b j) lI lJ few in
        let last : IsCombination mul b.n ev (sum (rank_at b i) (rank_at b j)) (λ p. mul (lead' (rank_at b i) (rank_at b j)) (ev (sum (rank_at b i) (rank_at b j)) p)) =
        combination_scale (2 ^ b.bits) mul field (lead' (rank_at b i) (rank_at b j)) (m.others (sum (rank_at b i) (rank_at b j)) few (λ k lk e. none k lk (is ∙ e))) in
        subst (λ (s : ℕ). IsSpannedBelow mul b s (product mul b i j)) (sym is)
        (spanned_before (sum (rank_at b i) (rank_at b j)) (product mul b i j) (omega arith)
        (combination_same (2 ^ b.bits) mul field (product mul b i j) (combination_xor (2 ^ b.bits) mul field rest last)
        (λ p l. xor_back (mul (ev (rank_at b i) p) (ev (rank_at b j) p)) (mul (lead' (rank_at b i) (rank_at b j)) (ev (sum (rank_at b i) (rank_at b j)) p)) ∙ sym (product_is i j p li lj l))))

    -- the first index of a pair whose sum is a member is that of a member
    pub first_member : (i j k : ℕ) → i < b.count → j < b.count → k < b.n → sum i j ≡ rank_at b k → (q : ℕ) × (q < b.n) × (i ≡ rank_at b q)
    first_member i j k li lj lk e = elim (cases_value b.n (rank_at b) i) [
      | inl w ↦ w
      | inr d ↦
          let lK : rank_at b k < b.count = m.ranks_below k lk in
          let few : sum i j < b.count = omega arith in
          let own : IsCombination mul b.n ev (sum i j) (ev (sum i j)) = old_sum (2 ^ b.bits) mul b.n b.count field ev sum lead' o i j li lj few (m.others i li d) in
          absurd (m.new k lk (subst (λ (s : ℕ). IsCombination mul b.n ev s (ev s)) e own))
    ]

    pub pairs_of_members : (k : ℕ) → k < b.n → pairs b.n (sum_at b) (rank_at b k) ≡ pairs b.count sum (rank_at b k)
    pairs_of_members k lk =
        same_pairs b.n (sum_at b) (λ a c. sum (rank_at b a) (rank_at b c)) (rank_at b k) (λ i j li lj. m.sums i j li lj)
        ∙ sym (pairs_members b.count b.n (rank_at b k) (rank_at b) sum m.ranks_below m.ranks_rise
        (λ i j li lj e none. let w : (q : ℕ) × (q < b.n) × (i ≡ rank_at b q) = first_member i j k li lj lk e in none w.0 w.1 w.2)
        (λ i j li lj e none. let w : (q : ℕ) × (q < b.n) × (j ≡ rank_at b q) = first_member j i k lj li lk (o.commute j i lj li ∙ e) in none w.0 w.1 w.2))

    ranks_up : (i j : ℕ) → i ≤ j → j < b.n → rank_at b i ≤ rank_at b j
    ranks_up i j l lj = elim (cases_eq i j) [
      | inl e ↦ let f : rank_at b i ≡ rank_at b j = ap (λ (q : ℕ). rank_at b q) e in omega arith
      | inr d ↦ let f : rank_at b i < rank_at b j = m.ranks_rise i j (omega arith) lj in omega arith
    ]

    ranks_total : (i j q p : ℕ) → i < b.n → j < b.n → q ≤ i → p ≤ j → q + p < i + j → rank_at b q + rank_at b p < rank_at b i + rank_at b j
    ranks_total i j q p li lj lq lp l = elim (cases_lt q i) [
      | inl u ↦ let f : rank_at b q < rank_at b i = m.ranks_rise q i u li in let g : rank_at b p ≤ rank_at b j = ranks_up p j lp lj in omega arith
      | inr u ↦ let f : rank_at b p < rank_at b j = m.ranks_rise p j (omega arith) lj in let g : rank_at b q ≤ rank_at b i = ranks_up q i lq li in omega arith
    ]

    pub sums_of_members : HasSums b
    sums_of_members = record {
      commute = λ i j li lj. m.sums i j li lj ∙ o.commute (rank_at b i) (rank_at b j) (m.ranks_below i li) (m.ranks_below j lj) ∙ sym (m.sums j i lj li);
      rise = record {
        rises = λ i j q p li lj lq lp l few.
            let one : sum_at b i j ≡ sum (rank_at b i) (rank_at b j) = m.sums i j li lj in
            let two : sum_at b q p ≡ sum (rank_at b q) (rank_at b p) = m.sums q p (omega arith) (omega arith) in
            let lI : rank_at b i < b.count = m.ranks_below i li in
            let lJ : rank_at b j < b.count = m.ranks_below j lj in
            let low : sum (rank_at b q) (rank_at b p) < sum (rank_at b i) (rank_at b j) =
            o.rise.rises (rank_at b i) (rank_at b j) (rank_at b q) (rank_at b p) lI lJ (ranks_up q i lq li) (ranks_up p j lp lj) (ranks_total i j q p li lj lq lp l) (omega arith) in
            omega arith;
      };
    }

    -- a member is the sum of the first member and itself
    pub some_pair_of : (k : ℕ) → k < b.n → ((i : ℕ) → i < b.count → sum 0 i ≡ i) → 1 ≤ pairs b.n (sum_at b) (rank_at b k)
    some_pair_of k lk first =
        let lK : rank_at b k < b.count = m.ranks_below k lk in
        let w : (q : ℕ) × (q < b.n) × (0 ≡ rank_at b q) = first_member 0 (rank_at b k) k (omega arith) lK lk (first (rank_at b k) lK) in
        one_pair b.n (sum_at b) (rank_at b k) w.0 k w.1 lk (m.sums w.0 k w.1 lk ∙ ap (λ (i : ℕ). sum i (rank_at b k)) (sym w.2) ∙ first (rank_at b k) lK)

pub origin_law : OriginLaw
origin_law mul b ev sum lead' field o m = record {
  member_products = member_lead mul b field ev sum lead' o m;
  other_products = other_product mul b field ev sum lead' o m;
  members_below = λ i j k li lj lk e. (
    first_member mul b field ev sum lead' o m i j k li lj lk e,
    first_member mul b field ev sum lead' o m j i k lj li lk (o.commute j i lj li ∙ e),
  );
  pairs_are = pairs_of_members mul b field ev sum lead' o m;
}

pub sound_law : SoundLaw
sound_law mul b ev sum lead' field shape o m first counts = record {
  field = field;
  shape = shape;
  sums_order = sums_of_members mul b field ev sum lead' o m;
  member_products = member_lead mul b field ev sum lead' o m;
  other_products = other_product mul b field ev sum lead' o m;
  pairs_counted = λ k l.
      let same : pairs b.n (sum_at b) (rank_at b k) ≡ pairs b.count sum (rank_at b k) = pairs_of_members mul b field ev sum lead' o m k l in
      let some : 1 ≤ pairs b.n (sum_at b) (rank_at b k) = some_pair_of mul b field ev sum lead' o m k l first in
      let is : pairs_at b k ≡ pairs b.count sum (rank_at b k) = counts k l in
      record { counted = is ∙ sym same; some_pair = omega arith };
}
