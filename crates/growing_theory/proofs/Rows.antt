-- How a reduction follows further entries of one row
use Rattle.std.proofs.lemmas.Bool.{cases_eq, cases_lt, lt-ltb, le-ltb}
use Rattle.std.proofs.Common.{◌≡◌, ◌≢◌, ◌⊎◌, ◌↔◌, ℕ, suc, ◌+◌, ◌<◌, ◌≤◌, sym, ◌∙◌, ap, subst, refl, inl, inr, arith, bit_xor, ltb, Bool, add-one}
use Rattle.field_theory.specs.Field.{IsField}
use Rattle.field_theory.specs.Sums.{xor_sum, count_below}
use Rattle.field_theory.proofs.Sums.{sum-same, eq_or_below, zero-mul, xor_same}
use Rattle.growing_theory.specs.Reduction.{kept, HasPivots, IsReduction}
use Rattle.growing_theory.proofs.Counts.{count_more, count_none, count_room, count-le}

-- row i is known further
pub record IsFurther (n i : ℕ) (known known2 : ℕ → ℕ) : Type 0 where
  pub row : i < n
  pub more : known i ≤ known2 i
  pub fits : known2 i ≤ n
  pub up : (p : ℕ) → p < i → known2 i ≤ known p
  pub others : (p : ℕ) → p ≢ i → known2 p ≡ known p

further_more : {n i : ℕ} {known known2 : ℕ → ℕ} → IsFurther n i known known2 → (p : ℕ) → known p ≤ known2 p
further_more {n} {i} {known} {known2} g p = elim (cases_eq p i) [
  | inl d ↦ let a : known p ≡ known i = ap known d in let b : known2 p ≡ known2 i = ap known2 d in let c : known i ≤ known2 i = g.more in omega arith
  | inr d ↦ let a : known2 p ≡ known p = g.others p d in omega arith
]

further_width : {n i : ℕ} {known known2 : ℕ → ℕ} → IsFurther n i known known2 → ((p : ℕ) → p < n → known p ≤ n) → (p : ℕ) → p < n → known2 p ≤ n
further_width {n} {i} {known} {known2} g width p l = elim (cases_eq p i) [
  | inl d ↦ let b : known2 p ≡ known2 i = ap known2 d in let c : known2 i ≤ n = g.fits in omega arith
  | inr d ↦ let a : known2 p ≡ known p = g.others p d in let b : known p ≤ n = width p l in omega arith
]

further_falls : {n i : ℕ} {known known2 : ℕ → ℕ} → IsFurther n i known known2 → ((p q : ℕ) → p ≤ q → q < n → known q ≤ known p) → (p q : ℕ) → p ≤ q → q < n → known2 q ≤ known2 p
further_falls {n} {i} {known} {known2} g falls p q l m = elim (cases_eq q i) [
  | inl d ↦
      let b : known2 q ≡ known2 i = ap known2 d in
      elim (cases_eq p i) [
        | inl f ↦ let c : known2 p ≡ known2 i = ap known2 f in omega arith
        | inr f ↦ let c : known2 p ≡ known p = g.others p f in let e : known2 i ≤ known p = g.up p (omega arith) in omega arith
      ]
  | inr d ↦ let a : known2 q ≡ known q = g.others q d in let b : known q ≤ known p = falls p q l m in let c : known p ≤ known2 p = further_more g p in omega arith
]

-- nothing is known yet
pub reduction_nothing : (mul : ℕ → ℕ → ℕ) (n : ℕ) (F R : ℕ → ℕ → ℕ) (span known pivot number rows inverse : ℕ → ℕ)
    → ((i : ℕ) → i < n → span i ≡ 0) → ((i : ℕ) → i < n → known i ≡ 0) → ((i : ℕ) → i < n → pivot i ≡ n) → ((j : ℕ) → j < n → number j ≡ n)
    → HasPivots mul n 0 F R span known pivot number rows inverse
reduction_nothing mul n F R span known pivot number rows inverse s k p m = record {
  tally = count_none n n pivot (λ i l. let e : pivot i ≡ n = p i l in omega arith);
  width = λ i l. let e : known i ≡ 0 = k i l in omega arith;
  falls = λ i q l u. let e : known q ≡ 0 = k q u in omega arith;
  inside = λ i l u. let e : pivot i ≡ n = p i l in absurd (omega arith);
  numbered = λ i l u. let e : pivot i ≡ n = p i l in absurd (omega arith);
  column = λ j l u. let e : number j ≡ n = m j l in absurd (omega arith);
  own = λ t l. absurd (omega arith);
  spans = λ i l. let e : span i ≡ 0 = s i l in omega arith;
  own_span = λ t l. absurd (omega arith);
  above = λ i t l u d. let e : span i ≡ 0 = s i l in absurd (omega arith);
  zeros = λ t j l u. absurd (omega arith);
  lead = λ t l. absurd (omega arith);
}

-- what is kept depends on the factors of the row and on what they stand for
pub kept_same : (mul : ℕ → ℕ → ℕ) (span span2 : ℕ → ℕ) (F F2 R R2 : ℕ → ℕ → ℕ) (p j : ℕ) → span2 p ≡ span p → ((t : ℕ) → t < span p → mul (F2 p t) (R2 t j) ≡ mul (F p t) (R t j)) → kept mul span2 F2 R2 p j ≡ kept mul span F R p j
kept_same mul span span2 F F2 R R2 p j e h = ap (λ (x : ℕ). xor_sum x (λ t. mul (F2 p t) (R2 t j))) e ∙ sum-same (span p) (λ t. mul (F2 p t) (R2 t j)) (λ t. mul (F p t) (R t j)) h

module _ (mul : ℕ → ℕ → ℕ) (n k : ℕ) (F R : ℕ → ℕ → ℕ) (span known pivot number rows inverse : ℕ → ℕ) (h : HasPivots mul n k F R span known pivot number rows inverse) where
  -- no more pivots than rows
  pub few_pivots : k ≤ n
  few_pivots = let u : count_below n (λ i. ltb (pivot i) n) ≤ n = count-le n (λ i. ltb (pivot i) n) in let v : count_below n (λ i. ltb (pivot i) n) ≡ k = h.tally in omega arith

  -- where a row has no pivot there is room for one more
  pub room_for : (i : ℕ) → i < n → n ≤ pivot i → k < n
  room_for i li free =
      let u : count_below n (λ p. ltb (pivot p) n) < n = count_room n (λ p. ltb (pivot p) n) i li (le-ltb (pivot i) n free) in
      let v : count_below n (λ p. ltb (pivot p) n) ≡ k = h.tally in
      omega arith

  -- a row without pivot is no pivot row
  pub not_own : (i t : ℕ) → n ≤ pivot i → t < k → rows t ≢ i
  not_own i t free l e = let a : pivot (rows t) < n = (h.own t l).1 in let b : pivot (rows t) ≡ pivot i = ap pivot e in omega arith

  -- no row has its pivot in a column without one
  pub not_there : (c p : ℕ) → n ≤ number c → c < n → p < n → pivot p ≢ c
  not_there c p none lc lp e =
      let a : number (pivot p) < k = (h.numbered p lp (omega arith)).0 in
      let b : number (pivot p) ≡ number c = ap number e in
      let few : k ≤ n = few_pivots in
      omega arith

  -- the pivot of column c stands above row i, which is known before column c alone
  pub pivot_above : (i c : ℕ) → i < n → c < n → known i ≤ c → number c < n → rows (number c) < i
  pivot_above i c li lc e l =
      let w : (number c < k) × (rows (number c) < n) × (pivot (rows (number c)) ≡ c) = h.column c lc l in
      let a : pivot (rows (number c)) < known (rows (number c)) = h.inside (rows (number c)) w.1 (omega arith) in
      elim (cases_lt (rows (number c)) i) [
        | inl u ↦ u
        | inr u ↦ let b : known (rows (number c)) ≤ known i = h.falls i (rows (number c)) u w.1 in absurd (omega arith)
      ]

  -- the same reduced rows
  pub rows_changed : (R2 : ℕ → ℕ → ℕ) → ((t j : ℕ) → t < k → j < n → R2 t j ≡ R t j) → HasPivots mul n k F R2 span known pivot number rows inverse
  rows_changed R2 same = record {
    tally = h.tally;
    width = h.width;
    falls = h.falls;
    inside = h.inside;
    numbered = h.numbered;
    column = h.column;
    own = h.own;
    spans = h.spans;
    own_span = h.own_span;
    above = h.above;
    zeros = λ t j l u. let a : pivot (rows t) < n = (h.own t l).1 in same t j l (omega arith) ∙ h.zeros t j l u;
    lead = λ t l. ap (λ x. mul x (inverse t)) (same t (pivot (rows t)) l (h.own t l).1) ∙ h.lead t l;
  }

  -- no pivot above in column j: its number says so
  pub none_above : (i j : ℕ) → i ≤ n → j < n → ((p : ℕ) → p < i → pivot p ≢ j) ↔ (number j < n → i ≤ rows (number j))
  none_above i j li lj = (
    λ none l. elim (cases_lt (rows (number j)) i) [
      | inl u ↦ absurd (none (rows (number j)) u (h.column j lj l).2)
      | inr u ↦ u
    ],
    λ far p lp e.
        let few : k ≤ n = few_pivots in
        let at : (number (pivot p) < k) × (rows (number (pivot p)) ≡ p) = h.numbered p (omega arith) (omega arith) in
        let low : number j < k = subst (λ (c : ℕ). number c < k) e at.0 in
        let is : rows (number j) ≡ p = ap (λ (c : ℕ). rows (number c)) (sym e) ∙ at.1 in
        let far_is : i ≤ rows (number j) = far (omega arith) in
        omega arith,
  )

  -- other factors of a row without pivot
  module _ (F2 : ℕ → ℕ → ℕ) (span2 : ℕ → ℕ) (i : ℕ) (li : i < n) (free : n ≤ pivot i)
      (span_old : (p : ℕ) → p ≢ i → span2 p ≡ span p) (factor_old : (p t : ℕ) → p < n → p ≢ i → t < span p → F2 p t ≡ F p t) (few : span2 i ≤ k)
      (up : (t : ℕ) → t < span2 i → F2 i t ≢ 0 → rows t < i) where
    pub factors_changed : HasPivots mul n k F2 R span2 known pivot number rows inverse
    factors_changed = record {
      tally = h.tally;
      width = h.width;
      falls = h.falls;
      inside = h.inside;
      numbered = h.numbered;
      column = h.column;
      own = h.own;
      spans = λ p lp. elim (cases_eq p i) [
        | inl d ↦ let a : span2 p ≡ span2 i = ap span2 d in omega arith
        | inr d ↦ let a : span2 p ≡ span p = span_old p d in let b : span p ≤ k = h.spans p lp in omega arith
      ];
      own_span = λ t l. let a : span2 (rows t) ≡ span (rows t) = span_old (rows t) (not_own i t free l) in let b : span (rows t) ≤ t = h.own_span t l in omega arith;
      above = λ p t lp lt d. elim (cases_eq p i) [
        | inl e ↦ subst (λ (q : ℕ). rows t < q) (sym e) (up t (subst (λ (q : ℕ). t < span2 q) e lt) (subst (λ (q : ℕ). F2 q t ≢ 0) e d))
        | inr e ↦ let a : span2 p ≡ span p = span_old p e in h.above p t lp (omega arith) (λ z. d (factor_old p t lp e (omega arith) ∙ z))
      ];
      zeros = h.zeros;
      lead = h.lead;
    }

    pub reduction_changed : (S : ℕ → ℕ → ℕ) → ((j : ℕ) → j < known i → kept mul span2 F2 R i j ≡ kept mul span F R i j) → IsReduction mul n k S F R span known pivot rows → IsReduction mul n k S F2 R span2 known pivot rows
    reduction_changed S same w = record {
      pivot_rows = λ t j l u. w.pivot_rows t j l u ∙ ap (λ x. bit_xor (S (rows t) j) x) (sym (others (rows t) j (h.own t l).0 (not_own i t free l)));
      before = λ p j lp lj u. w.before p j lp lj u ∙ elim (cases_eq p i) [
        | inl e ↦ subst (λ (q : ℕ). kept mul span F R q j ≡ kept mul span2 F2 R q j) (sym e) (sym (same j (subst (λ (q : ℕ). j < known q) e lj)))
        | inr e ↦ sym (others p j lp e)
      ];
    }
      where
        others : (p j : ℕ) → p < n → p ≢ i → kept mul span2 F2 R p j ≡ kept mul span F R p j
        others p j lp d = kept_same mul span span2 F F2 R R p j (span_old p d) (λ t l. ap (λ x. mul x (R t j)) (factor_old p t lp d l))

  -- row i is known further
  module _ (known2 : ℕ → ℕ) (i : ℕ) (g : IsFurther n i known known2) where
    pub known_further : HasPivots mul n k F R span known2 pivot number rows inverse
    known_further = record {
      tally = h.tally;
      width = further_width g h.width;
      falls = further_falls g h.falls;
      inside = λ p l m. let a : pivot p < known p = h.inside p l m in let b : known p ≤ known2 p = further_more g p in omega arith;
      numbered = h.numbered;
      column = h.column;
      own = h.own;
      spans = h.spans;
      own_span = h.own_span;
      above = h.above;
      zeros = h.zeros;
      lead = h.lead;
    }

    -- a row without pivot, by entries that it keeps
    pub reduction_further : (S : ℕ → ℕ → ℕ) → n ≤ pivot i → ((j : ℕ) → known i ≤ j → j < known2 i → S i j ≡ kept mul span F R i j) → IsReduction mul n k S F R span known pivot rows → IsReduction mul n k S F R span known2 pivot rows
    reduction_further S free new w = record {
      pivot_rows = λ t j l u. let a : known2 (rows t) ≡ known (rows t) = g.others (rows t) (not_own i t free l) in w.pivot_rows t j l (omega arith);
      before = λ p j lp lj u. elim (cases_eq p i) [
        | inr d ↦ let a : known2 p ≡ known p = g.others p d in w.before p j lp (omega arith) u
        | inl d ↦ elim (cases_lt j (known i)) [
          | inl m ↦ w.before p j lp (subst (λ (q : ℕ). j < known q) (sym d) m) u
          | inr m ↦ subst (λ (q : ℕ). S q j ≡ kept mul span F R q j) (sym d) (new j m (subst (λ (q : ℕ). j < known2 q) d lj))
        ]
      ];
    }

    -- a row with a pivot: its reduced row goes on
    module _ (R2 : ℕ → ℕ → ℕ) (s : ℕ) (ls : s < k) (is : rows s ≡ i) (others : (t j : ℕ) → t < k → j < n → (t ≡ s → known i ≤ j → ⊥) → R2 t j ≡ R t j) where
      past_inside : (j : ℕ) → j < pivot i → (known i ≤ j → ⊥)
      past_inside j l u = let lw : i < n = g.row in let a : pivot (rows s) < n = (h.own s ls).1 in let b : pivot (rows s) ≡ pivot i = ap pivot is in let c : pivot i < known i = h.inside i lw (omega arith) in omega arith

      past_same : (t j : ℕ) → t < k → j < pivot (rows t) → R2 t j ≡ R t j
      past_same t j l u = others t j l (let a : pivot (rows t) < n = (h.own t l).1 in omega arith) (λ e v. past_inside j (subst (λ (q : ℕ). j < pivot q) (ap rows e ∙ is) u) v)

      past_lead : (t : ℕ) → t < k → R2 t (pivot (rows t)) ≡ R t (pivot (rows t))
      past_lead t l =
          others t (pivot (rows t)) l (h.own t l).1
          (λ e v.
          let a : (rows t < n) × (pivot (rows t) < n) × (number (pivot (rows t)) ≡ t) = h.own t l in
          let b : pivot (rows t) < known (rows t) = h.inside (rows t) a.0 a.1 in
          let c : known (rows t) ≡ known i = ap known (ap rows e ∙ is) in
          omega arith)

      pub pivots_past : HasPivots mul n k F R2 span known2 pivot number rows inverse
      pivots_past = record {
        tally = h.tally;
        width = further_width g h.width;
        falls = further_falls g h.falls;
        inside = λ p l m. let a : pivot p < known p = h.inside p l m in let b : known p ≤ known2 p = further_more g p in omega arith;
        numbered = h.numbered;
        column = h.column;
        own = h.own;
        spans = h.spans;
        own_span = h.own_span;
        above = h.above;
        zeros = λ t j l u. past_same t j l u ∙ h.zeros t j l u;
        lead = λ t l. ap (λ x. mul x (inverse t)) (past_lead t l) ∙ h.lead t l;
      }

      module _ (size : ℕ) (field : IsField size mul) where
        -- what a row keeps of it is the same
        past_kept : (p j : ℕ) → p < n → j < known2 p → kept mul span F R2 p j ≡ kept mul span F R p j
        past_kept p j lp lj =
            kept_same mul span span F F R R2 p j refl
            (λ t l. elim (cases_eq (F p t) 0) [
              | inl z ↦ ap (λ x. mul x (R2 t j)) z ∙ zero-mul size mul field (R2 t j) ∙ sym (ap (λ x. mul x (R t j)) z ∙ zero-mul size mul field (R t j))
              | inr d ↦
                  let few : span p ≤ k = h.spans p lp in
                  let a : rows t < p = h.above p t lp l d in
                  ap (λ x. mul (F p t) x)
                  (others t j (omega arith) (let z : known2 p ≤ n = further_width g h.width p lp in omega arith)
                  (λ e v.
                  let b : rows t ≡ i = ap rows e ∙ is in
                  let c : known p ≤ known i = h.falls i p (omega arith) lp in
                  let f : known2 p ≡ known p = g.others p (omega arith) in
                  omega arith))
            ])

        pub reduction_past : (S : ℕ → ℕ → ℕ) → ((j : ℕ) → known i ≤ j → j < known2 i → R2 s j ≡ bit_xor (S i j) (kept mul span F R i j))
            → IsReduction mul n k S F R span known pivot rows → IsReduction mul n k S F R2 span known2 pivot rows
        reduction_past S new w = record {
          pivot_rows = λ t j l u. past_row t j l u (cases_eq t s) (cases_lt j (known i));
          before = λ p j lp lj u. elim (cases_lt j (known p)) [
            | inl m ↦ w.before p j lp m u ∙ sym (past_kept p j lp lj)
            | inr m ↦ elim (cases_eq p i) [
              | inr d ↦ let a : known2 p ≡ known p = g.others p d in absurd (omega arith)
              | inl d ↦ absurd (past_inside j (subst (λ (q : ℕ). j < pivot q) d u) (subst (λ (q : ℕ). known q ≤ j) d m))
            ]
          ];
        }
          where
            past_old : (t j : ℕ) → t < k → j < known2 (rows t) → (t ≡ s → known i ≤ j → ⊥) → R2 t j ≡ bit_xor (S (rows t) j) (kept mul span F R2 (rows t) j)
            past_old t j l u d =
                others t j l (let z : known2 (rows t) ≤ n = further_width g h.width (rows t) (h.own t l).0 in omega arith) d
                ∙ w.pivot_rows t j l (elim (cases_lt j (known (rows t))) [
                  | inl m ↦ m
                  | inr m ↦ elim (cases_eq (rows t) i) [
                    | inr e ↦ let a : known2 (rows t) ≡ known (rows t) = g.others (rows t) e in absurd (omega arith)
                    | inl e ↦
                        let a : t ≡ s = sym (h.own t l).2 ∙ ap (λ r. number (pivot r)) (e ∙ sym is) ∙ (h.own s ls).2 in
                        absurd (d a (subst (λ (q : ℕ). known q ≤ j) e m))
                  ]
                ])
                ∙ ap (λ x. bit_xor (S (rows t) j) x) (sym (past_kept (rows t) j (h.own t l).0 u))

            past_row : (t j : ℕ) → t < k → j < known2 (rows t) → (t ≡ s) ⊎ (t ≢ s) → (j < known i) ⊎ (known i ≤ j) → R2 t j ≡ bit_xor (S (rows t) j) (kept mul span F R2 (rows t) j)
            past_row t j l u (inr d) m = past_old t j l u (λ e v. d e)
            past_row t j l u (inl e) (inl m) = past_old t j l u (λ f v. omega arith)
            past_row t j l u (inl e) (inr m) =
                let a : rows t ≡ i = ap rows e ∙ is in
                ap (λ r. R2 r j) e ∙ new j m (subst (λ (q : ℕ). j < known2 q) a u)
                ∙ ap (λ x. bit_xor (S i j) x) (sym (past_kept i j g.row (subst (λ (q : ℕ). j < known2 q) a u)))
                ∙ ap (λ r. bit_xor (S r j) (kept mul span F R2 r j)) (sym a)

  -- a row without pivot gets one, in a column c without one
  module _ (pivot2 number2 rows2 inverse2 : ℕ → ℕ) (R2 : ℕ → ℕ → ℕ) (i c y : ℕ) (li : i < n) (lc : c < known i) (free : n ≤ pivot i) (none : n ≤ number c)
      (pivot_new : pivot2 i ≡ c) (pivot_old : (p : ℕ) → p ≢ i → pivot2 p ≡ pivot p)
      (number_new : number2 c ≡ k) (number_old : (p : ℕ) → p ≢ c → number2 p ≡ number p)
      (rows_new : rows2 k ≡ i) (rows_old : (t : ℕ) → t < k → rows2 t ≡ rows t)
      (inverse_new : inverse2 k ≡ y) (inverse_old : (t : ℕ) → t < k → inverse2 t ≡ inverse t)
      (same : (t j : ℕ) → t < k → j < n → R2 t j ≡ R t j) (zeros : (j : ℕ) → j < c → R2 k j ≡ 0) (one : mul (R2 k c) y ≡ 1) where
    column_in : c < n
    column_in = let a : known i ≤ n = h.width i li in omega arith

    not_pivot : ltb (pivot i) n ≡ Bool.false
    not_pivot = le-ltb (pivot i) n free

    -- the pivots that were there
    old_own : (t : ℕ) → t < k → (rows2 t < n) × (pivot2 (rows2 t) < n) × (number2 (pivot2 (rows2 t)) ≡ t)
    old_own t l =
        let w : (rows t < n) × (pivot (rows t) < n) × (number (pivot (rows t)) ≡ t) = h.own t l in
        let a : rows2 t ≡ rows t = rows_old t l in
        let b : pivot2 (rows2 t) ≡ pivot (rows t) = ap pivot2 a ∙ pivot_old (rows t) (not_own i t free l) in
        (omega arith, omega arith, ap number2 b ∙ number_old (pivot (rows t)) (not_there c (rows t) none column_in w.0) ∙ w.2)

    old_pivot : (t : ℕ) → t < k → pivot2 (rows2 t) ≡ pivot (rows t)
    old_pivot t l = ap pivot2 (rows_old t l) ∙ pivot_old (rows t) (not_own i t free l)

    new_pivot : pivot2 (rows2 k) ≡ c
    new_pivot = ap pivot2 rows_new ∙ pivot_new

    pub pivots_made : HasPivots mul n (suc k) F R2 span known pivot2 number2 rows2 inverse2
    pivots_made = record {
      tally =
          count_more n (λ p. ltb (pivot p) n) (λ p. ltb (pivot2 p) n) i li (λ p l d. ap (λ x. ltb x n) (sym (pivot_old p d))) not_pivot (lt-ltb (pivot2 i) n (let a : c < n = column_in in omega arith))
          ∙ ap (λ x. x + 1) h.tally ∙ add-one k;
      width = h.width;
      falls = h.falls;
      inside = λ p l m. elim (cases_eq p i) [
        | inl d ↦ let a : pivot2 p ≡ pivot2 i = ap pivot2 d in let b : known p ≡ known i = ap known d in omega arith
        | inr d ↦ let a : pivot2 p ≡ pivot p = pivot_old p d in let b : pivot p < known p = h.inside p l (omega arith) in omega arith
      ];
      numbered = λ p l m. elim (cases_eq p i) [
        | inl d ↦
            let a : number2 (pivot2 p) ≡ k = ap (λ x. number2 (pivot2 x)) d ∙ ap number2 pivot_new ∙ number_new in
            (omega arith, ap rows2 a ∙ rows_new ∙ sym d)
        | inr d ↦
            let a : pivot2 p ≡ pivot p = pivot_old p d in
            let w : (number (pivot p) < k) × (rows (number (pivot p)) ≡ p) = h.numbered p l (omega arith) in
            let b : number2 (pivot2 p) ≡ number (pivot p) = ap number2 a ∙ number_old (pivot p) (not_there c p none column_in l) in
            (omega arith, ap rows2 b ∙ rows_old (number (pivot p)) w.0 ∙ w.1)
      ];
      column = λ q l m. elim (cases_eq q c) [
        | inl d ↦
            let a : number2 q ≡ k = ap number2 d ∙ number_new in
            let b : rows2 (number2 q) ≡ i = ap rows2 a ∙ rows_new in
            (omega arith, omega arith, ap pivot2 b ∙ pivot_new ∙ sym d)
        | inr d ↦
            let a : number2 q ≡ number q = number_old q d in
            let w : (number q < k) × (rows (number q) < n) × (pivot (rows (number q)) ≡ q) = h.column q l (omega arith) in
            let b : rows2 (number2 q) ≡ rows (number q) = ap rows2 a ∙ rows_old (number q) w.0 in
            (omega arith, omega arith, ap pivot2 b ∙ pivot_old (rows (number q)) (λ f. let z : pivot (rows (number q)) ≡ pivot i = ap pivot f in omega arith) ∙ w.2)
      ];
      own = λ t l. elim (eq_or_below t k l) [
        | inr m ↦ old_own t m
        | inl d ↦
            let a : rows2 t ≡ i = ap rows2 d ∙ rows_new in
            let b : pivot2 (rows2 t) ≡ c = ap pivot2 a ∙ pivot_new in
            let e : c < n = column_in in
            (omega arith, omega arith, ap number2 b ∙ number_new ∙ sym d)
      ];
      spans = λ p l. let a : span p ≤ k = h.spans p l in omega arith;
      own_span = λ t l. elim (eq_or_below t k l) [
        | inr m ↦ let a : span (rows2 t) ≡ span (rows t) = ap span (rows_old t m) in let b : span (rows t) ≤ t = h.own_span t m in omega arith
        | inl d ↦ let a : span (rows2 t) ≡ span i = ap span (ap rows2 d ∙ rows_new) in let b : span i ≤ k = h.spans i li in omega arith
      ];
      above = λ p t l m d. let a : span p ≤ k = h.spans p l in let b : rows2 t ≡ rows t = rows_old t (omega arith) in let e : rows t < p = h.above p t l m d in omega arith;
      zeros = λ t j l u. elim (eq_or_below t k l) [
        | inr m ↦ let a : pivot2 (rows2 t) ≡ pivot (rows t) = old_pivot t m in let b : pivot (rows t) < n = (h.own t m).1 in same t j m (omega arith) ∙ h.zeros t j m (omega arith)
        | inl d ↦ let a : pivot2 (rows2 t) ≡ c = ap (λ x. pivot2 (rows2 x)) d ∙ new_pivot in ap (λ x. R2 x j) d ∙ zeros j (omega arith)
      ];
      lead = λ t l. elim (eq_or_below t k l) [
        | inr m ↦
            ap (λ x. mul (R2 t x) (inverse2 t)) (old_pivot t m) ∙ ap (λ x. mul x (inverse2 t)) (same t (pivot (rows t)) m (h.own t m).1)
            ∙ ap (λ x. mul (R t (pivot (rows t))) x) (inverse_old t m) ∙ h.lead t m
        | inl d ↦ subst (λ (r : ℕ). mul (R2 r (pivot2 (rows2 r))) (inverse2 r) ≡ 1) (sym d) (ap (λ x. mul (R2 k x) (inverse2 k)) new_pivot ∙ ap (λ x. mul (R2 k c) x) inverse_new ∙ one)
      ];
    }

    -- what a row keeps is the same
    made_kept : (p j : ℕ) → p < n → j < n → kept mul span F R2 p j ≡ kept mul span F R p j
    made_kept p j lp lj = kept_same mul span span F F R R2 p j refl (λ t l. let a : span p ≤ k = h.spans p lp in ap (λ x. mul (F p t) x) (same t j (omega arith) lj))

    -- where S is what row i keeps before the pivot, and from there on the new row is reduced by it
    pub reduction_made : (S : ℕ → ℕ → ℕ) → ((j : ℕ) → j < known i → R2 k j ≡ bit_xor (S i j) (kept mul span F R i j))
        → ((t j : ℕ) → t < k → j < known (rows t) → R t j ≡ bit_xor (S (rows t) j) (kept mul span F R (rows t) j))
        → ((p j : ℕ) → p < n → p ≢ i → j < known p → j < pivot p → S p j ≡ kept mul span F R p j) → IsReduction mul n (suc k) S F R2 span known pivot2 rows2
    reduction_made S new old before = record {
      pivot_rows = λ t j l u. elim (eq_or_below t k l) [
        | inr m ↦
            let a : rows2 t ≡ rows t = rows_old t m in
            let lj : j < n = let z : known (rows2 t) ≤ n = h.width (rows2 t) (old_own t m).0 in omega arith in
            same t j m lj ∙ old t j m (subst (λ (q : ℕ). j < known q) a u) ∙ ap (λ x. bit_xor (S (rows t) j) x) (sym (made_kept (rows t) j (h.own t m).0 lj))
            ∙ ap (λ r. bit_xor (S r j) (kept mul span F R2 r j)) (sym a)
        | inl d ↦
            let a : rows2 t ≡ i = ap rows2 d ∙ rows_new in
            let lj : j < n = let z : known i ≤ n = h.width i li in let v : j < known i = subst (λ (q : ℕ). j < known q) a u in omega arith in
            ap (λ x. R2 x j) d ∙ new j (subst (λ (q : ℕ). j < known q) a u) ∙ ap (λ x. bit_xor (S i j) x) (sym (made_kept i j li lj))
            ∙ ap (λ r. bit_xor (S r j) (kept mul span F R2 r j)) (sym a)
      ];
      before = λ p j lp lj u. elim (cases_eq p i) [
        | inr d ↦ let a : pivot2 p ≡ pivot p = pivot_old p d in before p j lp d lj (omega arith) ∙ sym (made_kept p j lp (let z : known p ≤ n = h.width p lp in omega arith))
        | inl d ↦
            let a : pivot2 p ≡ c = ap pivot2 d ∙ pivot_new in
            subst (λ (q : ℕ). S q j ≡ kept mul span F R2 q j) (sym d)
            (xor_same (S i j) (kept mul span F R i j) (sym (new j (subst (λ (q : ℕ). j < known q) d lj)) ∙ zeros j (omega arith)) ∙ sym (made_kept i j li (let z : known p ≤ n = h.width p lp in omega arith)))
      ];
    }

  -- a row without pivot is known further, with other factors: the other rows are as they were
  module _ (F2 R2 : ℕ → ℕ → ℕ) (span2 known2 : ℕ → ℕ) (i : ℕ) (free : n ≤ pivot i) (g : IsFurther n i known known2)
      (span_old : (p : ℕ) → p ≢ i → span2 p ≡ span p) (factor_old : (p t : ℕ) → p < n → p ≢ i → t < span p → F2 p t ≡ F p t) (same : (t j : ℕ) → t < k → j < n → R2 t j ≡ R t j)
      (S : ℕ → ℕ → ℕ) (w : IsReduction mul n k S F R span known pivot rows) where
    others_kept : (p j : ℕ) → p < n → p ≢ i → j < n → kept mul span2 F2 R2 p j ≡ kept mul span F R p j
    others_kept p j lp d lj =
        kept_same mul span span2 F F2 R R2 p j (span_old p d)
        (λ t l. let few : span p ≤ k = h.spans p lp in ap (λ x. mul x (R2 t j)) (factor_old p t lp d l) ∙ ap (λ x. mul (F p t) x) (same t j (omega arith) lj))

    pub others_rows : (t j : ℕ) → t < k → j < known2 (rows t) → R2 t j ≡ bit_xor (S (rows t) j) (kept mul span2 F2 R2 (rows t) j)
    others_rows t j l u =
        let d : rows t ≢ i = not_own i t free l in
        let a : known2 (rows t) ≡ known (rows t) = g.others (rows t) d in
        let b : known (rows t) ≤ n = h.width (rows t) (h.own t l).0 in
        same t j l (omega arith) ∙ w.pivot_rows t j l (omega arith) ∙ ap (λ x. bit_xor (S (rows t) j) x) (sym (others_kept (rows t) j (h.own t l).0 d (omega arith)))

    pub others_before : (p j : ℕ) → p < n → p ≢ i → j < known2 p → j < pivot p → S p j ≡ kept mul span2 F2 R2 p j
    others_before p j lp d lj u =
        let a : known2 p ≡ known p = g.others p d in
        let b : known p ≤ n = h.width p lp in
        w.before p j lp (omega arith) u ∙ sym (others_kept p j lp d (omega arith))
