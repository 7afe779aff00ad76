-- What the steps of a reduction leave of its lists
use Rattle.std.proofs.lemmas.Bool.{cases_eq, cases_lt}
use Rattle.std.proofs.lemmas.List.{get_or-set_same, get_or-set_other, length-set}
use Rattle.std.proofs.lemmas.List.Elements.{All-set}
use Rattle.std.proofs.Common.{◌≡◌, ◌≢◌, ◌⊎◌, ℕ, ◌+◌, ◌*◌, ◌-◌, ◌<◌, ◌≤◌, ◌^◌, List, length, sym, ◌∙◌, ap, subst, refl, inl, inr, arith, bit_xor, add-one}
use Rattle.std.proofs.Math.ListN.{set}
use Rattle.std.specs.Int.Bits.{xor_self}
use Rattle.std.specs.Prelude.{slice_index, All, Option, Some, None, IfNone}
use Rattle.gf_theory.specs.Field.{gf_mul}
use Rattle.field_theory.specs.Field.{IsField}
use Rattle.field_theory.specs.Sums.{xor_sum}
use Rattle.field_theory.proofs.Sums.{xor_same}
use Rattle.linear_theory.proofs.Tables.{place_below}
use Rattle.growing_theory.specs.Reduction.{kept, HasPivots, IsReduction}
use Rattle.growing_theory.proofs.Rows.{IsFurther, few_pivots, room_for, pivot_above, rows_changed, factors_changed, known_further, pivots_past, reduction_past, pivots_made, reduction_made, others_rows, others_before}
use Rattle.growing_theory.proofs.Combining.{combined_above, combined_sum, mixed_first, mixed_last}
use Rattle.vote_matrix.specs.Elimination.{Elimination, IsEliminationOf, kept_at, reduced_at, factor_at}
use Rattle.vote_matrix.specs.Lines.{line_kept, AllAbove, AreLeads, IsLeft}
use Rattle.vote_matrix.specs.Slots.{slots, IsSlot}
use Rattle.vote_matrix.specs.Stored.{IsState, IsAllBut, AreAbove, mixed_at}
use Rattle.vote_matrix.proofs.FieldLaws.{gf_is_field}
use Rattle.vote_matrix.proofs.Cuts.{kept_by}

-- what settling further entries of a pivot row does to the table of reduced rows
pub record IsExtended (bits modulus stride most i from span own : ℕ) (values factors reduced reduced2 : List ℕ) : Type 0 where
  pub long : length reduced2 ≡ length reduced
  pub symbols : All (λ x. x < 2 ^ bits) reduced2
  pub settled : (c : ℕ) → c < length values → slice_index reduced2 (own * stride + (from + c)) ≡ bit_xor (slice_index values c) (line_kept (gf_mul bits modulus) stride span (λ t. slice_index factors (i * most + t)) reduced (from + c))
  pub before : (p : ℕ) → p < own * stride + from → slice_index reduced2 p ≡ slice_index reduced p
  pub after : (p : ℕ) → own * stride + (from + length values) ≤ p → slice_index reduced2 p ≡ slice_index reduced p

pub extended_field : (fb fm ff fs bits modulus stride most i from span own : ℕ) (values xs ys factors reduced reduced2 : List ℕ) → fb ≡ bits → fm ≡ modulus → ff ≡ from → fs ≡ span → xs ≡ factors → ys ≡ reduced
    → IsExtended fb fm stride most i ff fs own values xs ys reduced2 → IsExtended bits modulus stride most i from span own values factors reduced reduced2
extended_field fb fm ff fs bits modulus stride most i from span own values xs ys factors reduced reduced2 eb em ef es ex ey h =
    subst (λ (b : ℕ). IsExtended b modulus stride most i from span own values factors reduced reduced2) eb
    (subst (λ (m : ℕ). IsExtended fb m stride most i from span own values factors reduced reduced2) em
    (subst (λ (q : ℕ). IsExtended fb fm stride most i q span own values factors reduced reduced2) ef
    (subst (λ (q : ℕ). IsExtended fb fm stride most i ff q own values factors reduced reduced2) es
    (subst (λ (zs : List ℕ). IsExtended fb fm stride most i ff fs own values zs reduced reduced2) ex
    (subst (λ (zs : List ℕ). IsExtended fb fm stride most i ff fs own values xs zs reduced2) ey h)))))

-- and those of a row without pivot to both tables
pub record IsFreed (bits modulus stride most i from span span2 count n : ℕ) (column : Option ℕ) (numbers values factors factors2 reduced reduced2 : List ℕ) : Type 0 where
  pub reduced_long : length reduced2 ≡ length reduced
  pub factors_long : length factors2 ≡ length factors
  pub reduced_symbols : All (λ x. x < 2 ^ bits) reduced2
  pub factors_symbols : All (λ x. x < 2 ^ bits) factors2
  pub few : span2 ≤ count
  pub left : IsLeft n from (from + length values) numbers (λ j. slice_index reduced2 (count * stride + j)) column
  pub kept : (j : ℕ) → j < from → line_kept (gf_mul bits modulus) stride span2 (λ t. slice_index factors2 (i * most + t)) reduced j ≡ line_kept (gf_mul bits modulus) stride span (λ t. slice_index factors (i * most + t)) reduced j
  pub settled : (c : ℕ) → c < length values → slice_index reduced2 (count * stride + (from + c)) ≡ bit_xor (slice_index values c) (line_kept (gf_mul bits modulus) stride span2 (λ t. slice_index factors2 (i * most + t)) reduced (from + c))
  pub rows : (rows : ℕ → ℕ) → ((c : ℕ) → from ≤ c → c < from + length values → slice_index numbers c < n → rows (slice_index numbers c) < i)
      → AllAbove rows i span (λ t. slice_index factors (i * most + t)) → AllAbove rows i span2 (λ t. slice_index factors2 (i * most + t))
  pub stay : (p : ℕ) → p < count * stride → slice_index reduced2 p ≡ slice_index reduced p
  pub before : (p : ℕ) → p < i * most → slice_index factors2 p ≡ slice_index factors p
  pub after : (p : ℕ) → i * most + most ≤ p → slice_index factors2 p ≡ slice_index factors p

pub freed_field : (fb fm ff fs bits modulus stride most i from span span2 count n : ℕ) (column : Option ℕ) (numbers values xs ys factors factors2 reduced reduced2 : List ℕ) → fb ≡ bits → fm ≡ modulus → ff ≡ from → fs ≡ span → xs ≡ factors → ys ≡ reduced
    → IsFreed fb fm stride most i ff fs span2 count n column numbers values xs factors2 ys reduced2 → IsFreed bits modulus stride most i from span span2 count n column numbers values factors factors2 reduced reduced2
freed_field fb fm ff fs bits modulus stride most i from span span2 count n column numbers values xs ys factors factors2 reduced reduced2 eb em ef es ex ey h =
    subst (λ (b : ℕ). IsFreed b modulus stride most i from span span2 count n column numbers values factors factors2 reduced reduced2) eb
    (subst (λ (m : ℕ). IsFreed fb m stride most i from span span2 count n column numbers values factors factors2 reduced reduced2) em
    (subst (λ (q : ℕ). IsFreed fb fm stride most i q span span2 count n column numbers values factors factors2 reduced reduced2) ef
    (subst (λ (q : ℕ). IsFreed fb fm stride most i ff q span2 count n column numbers values factors factors2 reduced reduced2) es
    (subst (λ (zs : List ℕ). IsFreed fb fm stride most i ff fs span2 count n column numbers values zs factors2 reduced reduced2) ex
    (subst (λ (zs : List ℕ). IsFreed fb fm stride most i ff fs span2 count n column numbers values xs factors2 zs reduced2) ey h)))))

-- the same of the lists as a call gets them
pub freed_at : (fb fm ff fs bits modulus stride most i from span span2 count n : ℕ) (column : Option ℕ) (os options : List (Option ℕ)) (values xs ys factors factors2 factors3 reduced reduced2 reduced3 : List ℕ)
    → fb ≡ bits → fm ≡ modulus → ff ≡ from → fs ≡ span → os ≡ options → length options ≡ n → xs ≡ factors → ys ≡ reduced → factors3 ≡ factors2 → reduced3 ≡ reduced2
    → IsFreed fb fm stride most i ff fs span2 count (length os) column (slots (length os) os) values xs factors2 ys reduced2 → IsFreed bits modulus stride most i from span span2 count n column (slots n options) values factors factors3 reduced reduced3
freed_at fb fm ff fs bits modulus stride most i from span span2 count n column os options values xs ys factors factors2 factors3 reduced reduced2 reduced3 eb em ef es eo en ex ey e2 e3 h =
    freed_field fb fm ff fs bits modulus stride most i from span span2 count n column (slots n options) values xs ys factors factors3 reduced reduced3 eb em ef es ex ey
    (subst (λ (m : ℕ). IsFreed fb fm stride most i ff fs span2 count m column (slots m options) values xs factors3 ys reduced3) en
    (subst (λ (zs : List (Option ℕ)). IsFreed fb fm stride most i ff fs span2 count (length zs) column (slots (length zs) zs) values xs factors3 ys reduced3) eo
    (subst (λ (zs : List ℕ). IsFreed fb fm stride most i ff fs span2 count (length os) column (slots (length os) os) values xs zs ys reduced3) (sym e2)
    (subst (λ (zs : List ℕ). IsFreed fb fm stride most i ff fs span2 count (length os) column (slots (length os) os) values xs factors2 ys zs) (sym e3) h))))

-- and of the pivots in their columns
pub leads_at : (fb fm bits modulus n stride count : ℕ) (os options : List (Option ℕ)) (is ys inverse reduced : List ℕ) → fb ≡ bits → fm ≡ modulus → os ≡ options → length options ≡ n → is ≡ inverse → ys ≡ reduced
    → AreLeads (gf_mul bits modulus) n stride count (slots n options) inverse reduced → AreLeads (gf_mul fb fm) (length os) stride count (slots (length os) os) is ys
leads_at fb fm bits modulus n stride count os options is ys inverse reduced eb em eo en ei ey h =
    rw (eb, em, eo, en, ei, ey) h

pub unit_at : (fb fm bits modulus x z y : ℕ) → fb ≡ bits → fm ≡ modulus → x ≡ z → gf_mul fb fm x y ≡ 1 → gf_mul bits modulus z y ≡ 1
unit_at fb fm bits modulus x z y eb em ex h = sym (ap (λ (b : ℕ). gf_mul b fm x y) eb ∙ ap (λ (m : ℕ). gf_mul bits m x y) em ∙ ap (λ (q : ℕ). gf_mul bits modulus q y) ex) ∙ h

-- rows of a table stand apart
row_apart : (stride t s j : ℕ) → t < s → j < stride → t * stride + j < s * stride
row_apart stride t s j l u = place_below s stride t j (s * stride) l u (let e : s * stride ≡ s * stride = omega arith in e)

module _ (v : Elimination) (numbers inverse : List ℕ) (h : IsState v numbers inverse) where
  abbrev field : IsField (2 ^ v.bits) (gf_mul v.bits v.modulus)
  field = gf_is_field v.bits v.modulus h.is_modulus

  abbrev mul : ℕ → ℕ → ℕ
  mul = gf_mul v.bits v.modulus

  pub reduction_of : (S : ℕ → ℕ → ℕ) → IsEliminationOf S v → IsReduction (gf_mul v.bits v.modulus) v.n v.count S (factor_at v) (reduced_at v) (slice_index v.spans) (slice_index v.known) (slice_index v.pivots) (slice_index v.rows)
  reduction_of S w = record { pivot_rows = w.pivot_rows; before = w.before }

  -- the pivots as they are found in their columns
  pub leads_of : AreLeads (gf_mul v.bits v.modulus) v.n v.stride v.count numbers inverse v.reduced
  leads_of = record {
    low = λ c l u. (h.has_pivots.column c l u).0;
    zeros = λ c j l u lj.
        let w : (slice_index numbers c < v.count) × (slice_index v.rows (slice_index numbers c) < v.n) × (slice_index v.pivots (slice_index v.rows (slice_index numbers c)) ≡ c) = h.has_pivots.column c l u in
        h.has_pivots.zeros (slice_index numbers c) j w.0 (omega arith);
    lead = λ c l u.
        let w : (slice_index numbers c < v.count) × (slice_index v.rows (slice_index numbers c) < v.n) × (slice_index v.pivots (slice_index v.rows (slice_index numbers c)) ≡ c) = h.has_pivots.column c l u in
        subst (λ (q : ℕ). gf_mul v.bits v.modulus (slice_index v.reduced (slice_index numbers c * v.stride + q)) (slice_index inverse (slice_index numbers c)) ≡ 1) w.2 (h.has_pivots.lead (slice_index numbers c) w.0);
  }

  -- the next entries of row i
  module _ (i x len : ℕ) (li : i < v.n) (is : x ≡ slice_index v.known i + len) (columns : slice_index v.known i + len ≤ v.n) (up : (p : ℕ) → p < i → slice_index v.known i + len ≤ slice_index v.known p) where
    abbrev known2 : List ℕ
    known2 = set v.known i x

    known_here : slice_index known2 i ≡ slice_index v.known i + len
    known_here = get_or-set_same v.known i x 0 (omega (arith, h.known_fit)) ∙ is

    pub further_of : IsFurther v.n i (slice_index v.known) (slice_index known2)
    further_of = record {
      row = li;
      more = omega (arith, known_here);
      fits = omega (arith, known_here);
      up = λ p l. let w : slice_index v.known i + len ≤ slice_index v.known p = up p l in omega (arith, known_here);
      others = λ p d. get_or-set_other v.known i p x 0 d;
    }

    -- where row i has a pivot
    module _ (own : ℕ) (values reduced2 : List ℕ) (long : len ≡ length values) (has : slice_index v.pivots i < v.n) (own_is : own ≡ slice_index numbers (slice_index v.pivots i))
        (w : IsExtended v.bits v.modulus v.stride v.most i (slice_index v.known i) (slice_index v.spans i) own values v.factors v.reduced reduced2) where
      own_low : own < v.count
      own_low = let a : slice_index numbers (slice_index v.pivots i) < v.count = (h.has_pivots.numbered i li has).0 in omega arith

      own_row : slice_index v.rows own ≡ i
      own_row = ap (λ (t : ℕ). slice_index v.rows t) own_is ∙ (h.has_pivots.numbered i li has).1

      -- all else of the table is as it was
      others : (t j : ℕ) → t < v.count → j < v.n → (t ≡ own → slice_index v.known i ≤ j → ⊥) → slice_index reduced2 (t * v.stride + j) ≡ slice_index v.reduced (t * v.stride + j)
      others t j lt lj d =
          let wide : v.n ≤ v.stride = h.wide in
          elim (cases_lt own t) [
            | inl l ↦ let a : own * v.stride + (v.stride - 1) < t * v.stride = row_apart v.stride own t (v.stride - 1) l (omega arith) in w.after (t * v.stride + j) (omega arith)
            | inr l ↦ elim (cases_eq t own) [
              | inl e ↦ elim (cases_lt j (slice_index v.known i)) [
                | inl u ↦ w.before (t * v.stride + j) (let a : t * v.stride ≡ own * v.stride = ap (λ (q : ℕ). q * v.stride) e in omega arith)
                | inr u ↦ absurd (d e u)
              ]
              | inr e ↦ let a : t * v.stride + j < own * v.stride = row_apart v.stride t own j (omega arith) (omega arith) in w.before (t * v.stride + j) (omega arith)
            ]
          ]

      abbrev R2 : ℕ → ℕ → ℕ
      R2 t j = slice_index reduced2 (t * v.stride + j)

      pub state_past : IsState (record v { known = set v.known i x; reduced = reduced2 }) numbers inverse
      state_past = record {
        is_modulus = h.is_modulus;
        some = h.some;
        small = h.small;
        most_small = h.most_small;
        few = h.few;
        wide = h.wide;
        stride_small = h.stride_small;
        known_fit = length-set v.known i x ∙ h.known_fit;
        pivots_fit = h.pivots_fit;
        numbers_fit = h.numbers_fit;
        rows_fit = h.rows_fit;
        inverse_fit = h.inverse_fit;
        spans_fit = h.spans_fit;
        reduced_fit = w.long ∙ h.reduced_fit;
        factors_fit = h.factors_fit;
        inverse_below = h.inverse_below;
        reduced_below = w.symbols;
        factors_below = h.factors_below;
        has_pivots =
            pivots_past mul v.n v.count (factor_at v) (reduced_at v) (slice_index v.spans) (slice_index v.known) (slice_index v.pivots) (slice_index numbers) (slice_index v.rows) (slice_index inverse) h.has_pivots
            (slice_index known2) i further_of R2 own own_low own_row others;
      }

      pub past_eliminated : (S : ℕ → ℕ → ℕ) → IsEliminationOf S v → ((c : ℕ) → c < length values → slice_index values c ≡ S i (slice_index v.known i + c)) → IsEliminationOf S (record v { known = set v.known i x; reduced = reduced2 })
      past_eliminated S e agree =
          let r =
          reduction_past mul v.n v.count (factor_at v) (reduced_at v) (slice_index v.spans) (slice_index v.known) (slice_index v.pivots) (slice_index numbers) (slice_index v.rows) (slice_index inverse) h.has_pivots
          (slice_index known2) i further_of R2 own own_low own_row others (2 ^ v.bits) field S
          (λ j l u.
          let at : slice_index v.known i + (j - slice_index v.known i) ≡ j = omega arith in
          let lc : j - slice_index v.known i < length values = omega (arith, known_here) in
          subst (λ (q : ℕ). slice_index reduced2 (own * v.stride + q) ≡ bit_xor (S i q) (kept_at v i q)) at
          (w.settled (j - slice_index v.known i) lc ∙ ap (λ (y : ℕ). bit_xor y (kept_at v i (slice_index v.known i + (j - slice_index v.known i)))) (agree (j - slice_index v.known i) lc)))
          (reduction_of S e) in
          record { symbols = e.symbols; inside = e.inside; pivot_rows = r.pivot_rows; before = r.before }

    -- where it has none
    module _ (span2 : ℕ) (column : Option ℕ) (values reduced2 factors2 : List ℕ) (long : len ≡ length values) (free : v.n ≤ slice_index v.pivots i) (room : v.count < v.most)
        (w : IsFreed v.bits v.modulus v.stride v.most i (slice_index v.known i) (slice_index v.spans i) span2 v.count v.n column numbers values v.factors factors2 v.reduced reduced2) where
      abbrev spans2 : List ℕ
      spans2 = set v.spans i span2

      span_here : slice_index spans2 i ≡ span2
      span_here = get_or-set_same v.spans i span2 0 (omega (arith, h.spans_fit))

      span_old : (p : ℕ) → p ≢ i → slice_index spans2 p ≡ slice_index v.spans p
      span_old p d = get_or-set_other v.spans i p span2 0 d

      abbrev F3 : ℕ → ℕ → ℕ
      F3 p t = slice_index factors2 (p * v.most + t)

      abbrev R3 : ℕ → ℕ → ℕ
      R3 t j = slice_index reduced2 (t * v.stride + j)

      factor_old : (p t : ℕ) → p < v.n → p ≢ i → t < slice_index v.spans p → F3 p t ≡ factor_at v p t
      factor_old p t lp d l =
          let a : slice_index v.spans p ≤ v.count = h.has_pivots.spans p lp in
          elim (cases_lt p i) [
            | inl u ↦ w.before (p * v.most + t) (row_apart v.most p i t u (omega arith))
            | inr u ↦ let b : i * v.most + (v.most - 1) < p * v.most = row_apart v.most i p (v.most - 1) (omega arith) (omega arith) in w.after (p * v.most + t) (omega arith)
          ]

      rows_same : (t j : ℕ) → t < v.count → j < v.n → R3 t j ≡ reduced_at v t j
      rows_same t j l u = let wide : v.n ≤ v.stride = h.wide in w.stay (t * v.stride + j) (row_apart v.stride t v.count j l (omega arith))

      above_here : (t : ℕ) → t < slice_index spans2 i → F3 i t ≢ 0 → slice_index v.rows t < i
      above_here t l d =
          w.rows (slice_index v.rows)
          (λ c lc uc low. pivot_above mul v.n v.count (factor_at v) (reduced_at v) (slice_index v.spans) (slice_index v.known) (slice_index v.pivots) (slice_index numbers) (slice_index v.rows) (slice_index inverse) h.has_pivots i c li (omega arith) lc low)
          (λ t lt e. h.has_pivots.above i t li lt e) t (omega (arith, span_here)) d

      with_rows : HasPivots mul v.n v.count (factor_at v) R3 (slice_index v.spans) (slice_index v.known) (slice_index v.pivots) (slice_index numbers) (slice_index v.rows) (slice_index inverse)
      with_rows = rows_changed mul v.n v.count (factor_at v) (reduced_at v) (slice_index v.spans) (slice_index v.known) (slice_index v.pivots) (slice_index numbers) (slice_index v.rows) (slice_index inverse) h.has_pivots R3 rows_same

      with_factors : HasPivots mul v.n v.count F3 R3 (slice_index spans2) (slice_index v.known) (slice_index v.pivots) (slice_index numbers) (slice_index v.rows) (slice_index inverse)
      with_factors =
          factors_changed mul v.n v.count (factor_at v) R3 (slice_index v.spans) (slice_index v.known) (slice_index v.pivots) (slice_index numbers) (slice_index v.rows) (slice_index inverse) with_rows
          F3 (slice_index spans2) i li free span_old factor_old (omega (arith, span_here, w.few)) above_here

      pub state_freed : IsState (record v { known = set v.known i x; spans = set v.spans i span2; reduced = reduced2; factors = factors2 }) numbers inverse
      state_freed = record {
        is_modulus = h.is_modulus;
        some = h.some;
        small = h.small;
        most_small = h.most_small;
        few = h.few;
        wide = h.wide;
        stride_small = h.stride_small;
        known_fit = length-set v.known i x ∙ h.known_fit;
        pivots_fit = h.pivots_fit;
        numbers_fit = h.numbers_fit;
        rows_fit = h.rows_fit;
        inverse_fit = h.inverse_fit;
        spans_fit = length-set v.spans i span2 ∙ h.spans_fit;
        reduced_fit = w.reduced_long ∙ h.reduced_fit;
        factors_fit = w.factors_long ∙ h.factors_fit;
        inverse_below = h.inverse_below;
        reduced_below = w.reduced_symbols;
        factors_below = w.factors_symbols;
        has_pivots =
            known_further mul v.n v.count F3 R3 (slice_index spans2) (slice_index v.known) (slice_index v.pivots) (slice_index numbers) (slice_index v.rows) (slice_index inverse) with_factors
            (slice_index known2) i further_of;
      }

      -- what is left of the line, as far as it is settled
      pub left_at : IsLeft v.n (slice_index v.known i) (slice_index known2 i) numbers (λ j. slice_index reduced2 (v.count * v.stride + j)) column
      left_at = subst (λ (q : ℕ). IsLeft v.n (slice_index v.known i) q numbers (λ j. slice_index reduced2 (v.count * v.stride + j)) column) (sym (known_here ∙ ap (λ (q : ℕ). slice_index v.known i + q) long)) w.left

      -- what row i keeps, by the rows as they were
      kept_here : (j : ℕ) → j < v.n → kept mul (slice_index spans2) F3 R3 i j ≡ line_kept mul v.stride span2 (λ t. slice_index factors2 (i * v.most + t)) v.reduced j
      kept_here j lj =
          ap (λ (s : ℕ). line_kept mul v.stride s (λ t. slice_index factors2 (i * v.most + t)) reduced2 j) span_here
          ∙ kept_by v.bits v.modulus v.stride span2 j (λ t. slice_index factors2 (i * v.most + t)) (λ t. slice_index factors2 (i * v.most + t)) reduced2 v.reduced (λ t l. refl) (λ t l. rows_same t j (omega (arith, w.few)) lj)

      -- before the first column where something may be left the line is 0
      line_zero : (j : ℕ) → j < slice_index v.known i → slice_index reduced2 (v.count * v.stride + j) ≡ 0
      line_zero j l = zero_in column w.left
        where
          zero_in : (o : Option ℕ) → IsLeft v.n (slice_index v.known i) (slice_index v.known i + length values) numbers (λ q. slice_index reduced2 (v.count * v.stride + q)) o → slice_index reduced2 (v.count * v.stride + j) ≡ 0
          zero_in (Some c) f = let a : slice_index v.known i ≤ c = f.after in f.zeros j (omega arith)
          zero_in None f = f.zeros j (omega arith)

      pub freed_but : (S : ℕ → ℕ → ℕ) → IsEliminationOf S v → ((c : ℕ) → c < length values → slice_index values c ≡ S i (slice_index v.known i + c))
          → IsAllBut S (record v { known = set v.known i x; spans = set v.spans i span2; reduced = reduced2; factors = factors2 }) i
      freed_but S e agree = record {
        symbols = e.symbols;
        inside = e.inside;
        pivot_rows =
            others_rows mul v.n v.count (factor_at v) (reduced_at v) (slice_index v.spans) (slice_index v.known) (slice_index v.pivots) (slice_index numbers) (slice_index v.rows) (slice_index inverse) h.has_pivots
            F3 R3 (slice_index spans2) (slice_index known2) i free further_of span_old factor_old rows_same S (reduction_of S e);
        before =
            others_before mul v.n v.count (factor_at v) (reduced_at v) (slice_index v.spans) (slice_index v.known) (slice_index v.pivots) (slice_index numbers) (slice_index v.rows) (slice_index inverse) h.has_pivots
            F3 R3 (slice_index spans2) (slice_index known2) i free further_of span_old factor_old rows_same S (reduction_of S e);
        line = λ j l. line_at j (omega (arith, known_here)) (omega (arith, known_here)) (cases_lt j (slice_index v.known i));
      }
        where
          line_at : (j : ℕ) → j < v.n → j < slice_index v.known i + len → (j < slice_index v.known i) ⊎ (slice_index v.known i ≤ j) → slice_index reduced2 (v.count * v.stride + j) ≡ bit_xor (S i j) (kept mul (slice_index spans2) F3 R3 i j)
          line_at j lj u (inl l) =
              let was : S i j ≡ kept_at v i j = e.before i j li l (omega arith) in
              line_zero j l
              ∙ sym (ap (λ (y : ℕ). bit_xor y (kept mul (slice_index spans2) F3 R3 i j)) was ∙ ap (λ (y : ℕ). bit_xor (kept_at v i j) y) (kept_here j lj ∙ w.kept j l) ∙ xor_self (kept_at v i j))
          line_at j lj u (inr l) =
              let at : slice_index v.known i + (j - slice_index v.known i) ≡ j = omega arith in
              subst (λ (q : ℕ). slice_index reduced2 (v.count * v.stride + q) ≡ bit_xor (S i q) (line_kept mul v.stride span2 (λ t. slice_index factors2 (i * v.most + t)) v.reduced q)) at
              (w.settled (j - slice_index v.known i) (omega arith)
              ∙ ap (λ (y : ℕ). bit_xor y (line_kept mul v.stride span2 (λ t. slice_index factors2 (i * v.most + t)) v.reduced (slice_index v.known i + (j - slice_index v.known i)))) (agree (j - slice_index v.known i) (omega arith)))
              ∙ ap (λ (y : ℕ). bit_xor (S i j) y) (sym (kept_here j lj))

  pub pivots_room : (i : ℕ) → i < v.n → v.n ≤ slice_index v.pivots i → v.count < v.n
  pivots_room i li free = room_for mul v.n v.count (factor_at v) (reduced_at v) (slice_index v.spans) (slice_index v.known) (slice_index v.pivots) (slice_index numbers) (slice_index v.rows) (slice_index inverse) h.has_pivots i li free

  -- a column where a row has its pivot has a number
  pub own_none : (i : ℕ) → i < v.n → (column : ℕ) (o : Option ℕ) → slice_index v.pivots i ≡ column → column < v.n → (P : Type 0) → IsSlot v.n (slice_index numbers column) o → IfNone o P
  own_none i li column (Some x) e l P s = tt
  own_none i li column None e l P s =
      let few : v.count ≤ v.n = few_pivots mul v.n v.count (factor_at v) (reduced_at v) (slice_index v.spans) (slice_index v.known) (slice_index v.pivots) (slice_index numbers) (slice_index v.rows) (slice_index inverse) h.has_pivots in
      let a : slice_index numbers (slice_index v.pivots i) < v.count = (h.has_pivots.numbered i li (omega arith)).0 in
      let b : slice_index numbers (slice_index v.pivots i) ≡ slice_index numbers column = ap (λ (q : ℕ). slice_index numbers q) e in
      absurd (omega arith)

  pub column_low : (i c : ℕ) → i < v.n → c < slice_index v.known i → c < v.n
  column_low i c l u = let a : slice_index v.known i ≤ v.n = h.has_pivots.width i l in omega arith

  -- where nothing is left of row i, all rows are eliminated
  pub all_rows : (S : ℕ → ℕ → ℕ) (i : ℕ) → IsAllBut S v i → ((j : ℕ) → j < slice_index v.known i → reduced_at v v.count j ≡ 0) → IsEliminationOf S v
  all_rows S i b zeros = record {
    symbols = b.symbols;
    inside = b.inside;
    pivot_rows = b.pivot_rows;
    before = λ p j lp l u. elim (cases_eq p i) [
      | inr d ↦ b.before p j lp d l u
      | inl d ↦ subst (λ (q : ℕ). S q j ≡ kept_at v q j) (sym d) (let lj : j < slice_index v.known i = subst (λ (q : ℕ). j < slice_index v.known q) d l in xor_same (S i j) (kept_at v i j) (sym (b.line j lj) ∙ zeros j lj))
    ];
  }

  -- the line in the first free place becomes a pivot row
  module _ (i c y : ℕ) (li : i < v.n) (lc : c < slice_index v.known i) (free : v.n ≤ slice_index v.pivots i) (none : v.n ≤ slice_index numbers c) (room : v.count < v.most)
      (zeros : (j : ℕ) → j < c → reduced_at v v.count j ≡ 0) (symbol : y < 2 ^ v.bits) (one : gf_mul v.bits v.modulus (reduced_at v v.count c) y ≡ 1) where
    abbrev pivots2 : List ℕ
    pivots2 = set v.pivots i c

    abbrev numbers2 : List ℕ
    numbers2 = set numbers c v.count

    abbrev rows2 : List ℕ
    rows2 = set v.rows v.count i

    abbrev inverse2 : List ℕ
    inverse2 = set inverse v.count y

    c_low : c < v.n
    c_low = let a : slice_index v.known i ≤ v.n = h.has_pivots.width i li in omega arith

    pivot_new : slice_index pivots2 i ≡ c
    pivot_new = get_or-set_same v.pivots i c 0 (omega (arith, h.pivots_fit))

    number_new : slice_index numbers2 c ≡ v.count
    number_new = let a : c < v.n = c_low in get_or-set_same numbers c v.count 0 (omega (arith, h.numbers_fit))

    rows_new : slice_index rows2 v.count ≡ i
    rows_new = get_or-set_same v.rows v.count i 0 (omega (arith, h.rows_fit))

    inverse_new : slice_index inverse2 v.count ≡ y
    inverse_new = get_or-set_same inverse v.count y 0 (omega (arith, h.inverse_fit))

    pub state_made : IsState (record v { count = v.count + 1; pivots = set v.pivots i c; rows = set v.rows v.count i }) (set numbers c v.count) (set inverse v.count y)
    state_made = record {
      is_modulus = h.is_modulus;
      some = h.some;
      small = h.small;
      most_small = h.most_small;
      few = omega arith;
      wide = h.wide;
      stride_small = h.stride_small;
      known_fit = h.known_fit;
      pivots_fit = length-set v.pivots i c ∙ h.pivots_fit;
      numbers_fit = length-set numbers c v.count ∙ h.numbers_fit;
      rows_fit = length-set v.rows v.count i ∙ h.rows_fit;
      inverse_fit = length-set inverse v.count y ∙ h.inverse_fit;
      spans_fit = h.spans_fit;
      reduced_fit = h.reduced_fit;
      factors_fit = h.factors_fit;
      inverse_below = All-set (λ z. z < 2 ^ v.bits) inverse v.count y symbol h.inverse_below;
      reduced_below = h.reduced_below;
      factors_below = h.factors_below;
      has_pivots =
          subst (λ (k : ℕ). HasPivots mul v.n k (factor_at v) (reduced_at v) (slice_index v.spans) (slice_index v.known) (slice_index pivots2) (slice_index numbers2) (slice_index rows2) (slice_index inverse2)) (sym (add-one v.count))
          (pivots_made mul v.n v.count (factor_at v) (reduced_at v) (slice_index v.spans) (slice_index v.known) (slice_index v.pivots) (slice_index numbers) (slice_index v.rows) (slice_index inverse) h.has_pivots
          (slice_index pivots2) (slice_index numbers2) (slice_index rows2) (slice_index inverse2) (reduced_at v) i c y li lc free none
          pivot_new (λ p d. get_or-set_other v.pivots i p c 0 d) number_new (λ p d. get_or-set_other numbers c p v.count 0 d)
          rows_new (λ t l. get_or-set_other v.rows v.count t i 0 (omega arith)) inverse_new (λ t l. get_or-set_other inverse v.count t y 0 (omega arith))
          (λ t j l u. refl) zeros one);
    }

    pub made_eliminated : (S : ℕ → ℕ → ℕ) → IsAllBut S v i → IsEliminationOf S (record v { count = v.count + 1; pivots = set v.pivots i c; rows = set v.rows v.count i })
    made_eliminated S b =
        let r =
        reduction_made mul v.n v.count (factor_at v) (reduced_at v) (slice_index v.spans) (slice_index v.known) (slice_index v.pivots) (slice_index numbers) (slice_index v.rows) (slice_index inverse) h.has_pivots
        (slice_index pivots2) (slice_index numbers2) (slice_index rows2) (slice_index inverse2) (reduced_at v) i c y li lc free none
        pivot_new (λ p d. get_or-set_other v.pivots i p c 0 d) number_new (λ p d. get_or-set_other numbers c p v.count 0 d)
        rows_new (λ t l. get_or-set_other v.rows v.count t i 0 (omega arith)) inverse_new (λ t l. get_or-set_other inverse v.count t y 0 (omega arith))
        (λ t j l u. refl) zeros one S b.line b.pivot_rows b.before in
        record {
          symbols = b.symbols;
          inside = λ t l. (state_made.has_pivots.own t l).0;
          pivot_rows = λ t j l u. r.pivot_rows t j (omega arith) u;
          before = r.before;
        }

  -- ---- from the factors of the reduced rows to those of the rows as they came
  module _ (t : ℕ) (a a2 : ℕ → ℕ) (lt : t < v.count) (more : (u : ℕ) → u < slice_index v.spans (slice_index v.rows t) → a2 u ≡ bit_xor (a u) (gf_mul v.bits v.modulus (a t) (factor_at v (slice_index v.rows t) u)))
      (rest : (u : ℕ) → slice_index v.spans (slice_index v.rows t) ≤ u → a2 u ≡ a u) where
    pub taken_above : (i : ℕ) → i < v.n → AreAbove v i a → AreAbove v i a2
    taken_above i li up =
        combined_above (2 ^ v.bits) mul field v.n v.count (factor_at v) (reduced_at v) (slice_index v.spans) (slice_index v.known) (slice_index v.pivots) (slice_index numbers) (slice_index v.rows) (slice_index inverse) h.has_pivots a a2 i t li lt up more (λ u l lu. rest u l)

    pub taken_sum : (S : ℕ → ℕ → ℕ) (i j : ℕ) → IsEliminationOf S v → i < v.n → AreAbove v i a → j < slice_index v.known i → mixed_at v S a2 t j ≡ mixed_at v S a (t + 1) j
    taken_sum S i j e li up lj =
        combined_sum (2 ^ v.bits) mul field v.n v.count S (factor_at v) (reduced_at v) (slice_index v.spans) (slice_index v.known) (slice_index v.pivots) (slice_index numbers) (slice_index v.rows) (slice_index inverse) h.has_pivots (reduction_of S e) a a2 i t li lt up more (λ u l lu. rest u l) j lj
        ∙ ap (λ (q : ℕ). mixed_at v S a q j) (sym (add-one t))

  pub first_sum : (a : ℕ → ℕ) (S : ℕ → ℕ → ℕ) (i j : ℕ) → IsEliminationOf S v → i < v.n → ((t : ℕ) → t < slice_index v.spans i → a t ≡ factor_at v i t) → ((t : ℕ) → slice_index v.spans i ≤ t → a t ≡ 0) → mixed_at v S a v.count j ≡ kept_at v i j
  first_sum a S i j e li same zeros =
      mixed_first (2 ^ v.bits) mul field v.n v.count S (factor_at v) (reduced_at v) (slice_index v.spans) (slice_index v.known) (slice_index v.pivots) (slice_index numbers) (slice_index v.rows) (slice_index inverse) h.has_pivots (reduction_of S e) a i j li same (λ t l u. zeros t l)

  pub copied_above : (a : ℕ → ℕ) (i : ℕ) → i < v.n → ((t : ℕ) → t < slice_index v.spans i → a t ≡ factor_at v i t) → ((t : ℕ) → slice_index v.spans i ≤ t → a t ≡ 0) → AreAbove v i a
  copied_above a i li same zeros u l d = elim (cases_lt u (slice_index v.spans i)) [
    | inl m ↦ h.has_pivots.above i u li m (λ z. d (same u m ∙ z))
    | inr m ↦ absurd (d (zeros u m))
  ]

  pub last_sum : (a : ℕ → ℕ) (S : ℕ → ℕ → ℕ) (j : ℕ) → IsEliminationOf S v → mixed_at v S a 0 j ≡ xor_sum v.count (λ t. gf_mul v.bits v.modulus (a t) (S (slice_index v.rows t) j))
  last_sum a S j e =
      mixed_last (2 ^ v.bits) mul field v.n v.count S (factor_at v) (reduced_at v) (slice_index v.spans) (slice_index v.known) (slice_index v.pivots) (slice_index numbers) (slice_index v.rows) (slice_index inverse) h.has_pivots (reduction_of S e) a j

-- one row's factors are added, as a call says it
pub record IsTaken (bits modulus most q span number : ℕ) (factors out out2 : List ℕ) : Type 0 where
  pub more : (u : ℕ) → u < span → slice_index out2 u ≡ bit_xor (slice_index out u) (gf_mul bits modulus (slice_index out number) (slice_index factors (q * most + u)))
  pub rest : (u : ℕ) → span ≤ u → slice_index out2 u ≡ slice_index out u

pub taken_at : (fb fm fq fs bits modulus most q span number : ℕ) (xs factors out out2 : List ℕ) → fb ≡ bits → fm ≡ modulus → fq ≡ q → fs ≡ span → xs ≡ factors → IsTaken fb fm most fq fs number xs out out2 → IsTaken bits modulus most q span number factors out out2
taken_at fb fm fq fs bits modulus most q span number xs factors out out2 eb em eq es ex h =
    subst (λ (b : ℕ). IsTaken b modulus most q span number factors out out2) eb
    (subst (λ (m : ℕ). IsTaken fb m most q span number factors out out2) em
    (subst (λ (r : ℕ). IsTaken fb fm most r span number factors out out2) eq
    (subst (λ (r : ℕ). IsTaken fb fm most fq r number factors out out2) es
    (subst (λ (zs : List ℕ). IsTaken fb fm most fq fs number zs out out2) ex h))))
