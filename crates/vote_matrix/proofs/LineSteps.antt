-- What one step leaves of a line
use Rattle.std.proofs.lemmas.Bool.{cases_eq, cases_lt}
use Rattle.std.proofs.Common.{◌≡◌, ◌≢◌, ℕ, suc, ◌+◌, ◌*◌, ◌-◌, ◌<◌, ◌≤◌, ◌^◌, List, sym, ◌∙◌, ap, subst, inl, inr, arith, bit_xor, add-one, length, take}
use Rattle.std.specs.Int.Bits.{xor_zero_r, xor_self, xor_assoc}
use Rattle.std.specs.Prelude.{slice_index, Option, Some, None}
use Rattle.std.proofs.lemmas.List.{get_or-take, length-take-le}
use Rattle.gf_theory.specs.Field.{gf_mul, IsModulus}
use Rattle.gf_theory.proofs.Product.{gf_mul-zero_left, gf_mul-zero_right}
use Rattle.field_theory.specs.Field.{IsField}
use Rattle.field_theory.specs.Sums.{xor_sum, put}
use Rattle.field_theory.proofs.Sums.{sum-same, sum-xor, sum-only, xor_mid, xor_mul, mul_one}
use Rattle.linear_theory.proofs.Spans.{put-same, put-other, xor_back}
use Rattle.growing_theory.proofs.Combining.{sum_short}
use Rattle.vote_matrix.specs.Lines.{line_kept, AllAbove, AreLeads, IsLeft}
use Rattle.vote_matrix.proofs.FieldLaws.{gf_is_field}

-- a multiple of a row that is 0 before the places where it is added
pub part_added : (bits modulus base from len to x : ℕ) (old new src : List ℕ) → to ≤ from + len
    → ((p : ℕ) → p < from → slice_index new p ≡ slice_index old p) → ((p : ℕ) → p < from → slice_index src (base + p) ≡ 0)
    → ((j : ℕ) → j < len → slice_index new (from + j) ≡ bit_xor (slice_index old (from + j)) (gf_mul bits modulus x (slice_index src (base + from + j))))
    → (j : ℕ) → j < to → slice_index new j ≡ bit_xor (slice_index old j) (gf_mul bits modulus x (slice_index src (base + j)))
part_added bits modulus base from len to x old new src l before zeros added j lj = elim (cases_lt j from) [
  | inl u ↦
      before j u
      ∙ sym (ap (λ (y : ℕ). bit_xor (slice_index old j) (gf_mul bits modulus x y)) (zeros j u) ∙ ap (λ (y : ℕ). bit_xor (slice_index old j) y) (gf_mul-zero_right bits modulus x) ∙ xor_zero_r (slice_index old j))
  | inr u ↦
      let e : from + (j - from) ≡ j = omega arith in
      let f : base + from + (j - from) ≡ base + j = omega arith in
      subst (λ (p : ℕ). slice_index new p ≡ bit_xor (slice_index old p) (gf_mul bits modulus x (slice_index src (base + from + (j - from))))) e (added (j - from) (omega arith))
      ∙ ap (λ (p : ℕ). bit_xor (slice_index old j) (gf_mul bits modulus x (slice_index src p))) f
]

-- the factor clears the column
pub column_cleared : (bits modulus e v y factor new : ℕ) → IsModulus bits modulus → e < 2 ^ bits → gf_mul bits modulus v y ≡ 1 → factor ≡ gf_mul bits modulus e y
    → new ≡ bit_xor e (gf_mul bits modulus factor v) → new ≡ 0
column_cleared bits modulus e v y factor new h l one f is =
    let field : IsField (2 ^ bits) (gf_mul bits modulus) = gf_is_field bits modulus h in
    is ∙ ap (λ (x : ℕ). bit_xor e (gf_mul bits modulus x v)) f
    ∙ ap (λ (x : ℕ). bit_xor e x) (field.mul_assoc e y v ∙ ap (λ (x : ℕ). gf_mul bits modulus e x) (field.mul_comm y v ∙ one) ∙ mul_one (2 ^ bits) (gf_mul bits modulus) field e l) ∙ xor_self e

-- one more row is added
pub row_added : (bits modulus stride at len t : ℕ) (line0 line new above : List ℕ) (own : ℕ → ℕ)
    → ((j : ℕ) → j < len → slice_index new (at + j) ≡ bit_xor (slice_index line (at + j)) (gf_mul bits modulus (own t) (slice_index above (t * stride + at + j))))
    → ((j : ℕ) → at ≤ j → j < at + len → slice_index line j ≡ bit_xor (slice_index line0 j) (line_kept (gf_mul bits modulus) stride t own above j))
    → (j : ℕ) → at ≤ j → j < at + len → slice_index new j ≡ bit_xor (slice_index line0 j) (line_kept (gf_mul bits modulus) stride (t + 1) own above j)
row_added bits modulus stride at len t line0 line new above own added so_far j l u =
    let e : at + (j - at) ≡ j = omega arith in
    let f : t * stride + at + (j - at) ≡ t * stride + j = omega arith in
    subst (λ (p : ℕ). slice_index new p ≡ bit_xor (slice_index line p) (gf_mul bits modulus (own t) (slice_index above (t * stride + at + (j - at))))) e (added (j - at) (omega arith))
    ∙ ap (λ (p : ℕ). bit_xor (slice_index line j) (gf_mul bits modulus (own t) (slice_index above p))) f
    ∙ ap (λ (x : ℕ). bit_xor x (gf_mul bits modulus (own t) (slice_index above (t * stride + j)))) (so_far j l u)
    ∙ xor_assoc (slice_index line0 j) (line_kept (gf_mul bits modulus) stride t own above j) (gf_mul bits modulus (own t) (slice_index above (t * stride + j)))
    ∙ ap (λ (k : ℕ). bit_xor (slice_index line0 j) (line_kept (gf_mul bits modulus) stride k own above j)) (sym (add-one t))

-- a factor is noted: what is kept grows by so many times its row
module _ (bits modulus span span2 number factor : ℕ) (own own2 : ℕ → ℕ) (least : span ≤ span2) (here : number < span2) (only : span < span2 → span2 ≡ number + 1)
    (others : (t : ℕ) → t < span → t ≢ number → own2 t ≡ own t) (gap : (t : ℕ) → span ≤ t → t < number → own2 t ≡ 0)
    (old : number < span → own2 number ≡ bit_xor (own number) factor) (fresh : span ≤ number → own2 number ≡ factor) where
  -- within the span
  noted_within : IsModulus bits modulus → (row : ℕ → ℕ) → number < span → xor_sum span (λ t. gf_mul bits modulus (own2 t) (row t)) ≡ bit_xor (xor_sum span (λ t. gf_mul bits modulus (own t) (row t))) (gf_mul bits modulus factor (row number))
  noted_within h row l =
      sum-same span (λ t. gf_mul bits modulus (own2 t) (row t)) (λ t. bit_xor (gf_mul bits modulus (own t) (row t)) (put (λ r. 0) number (gf_mul bits modulus factor (row number)) t)) term
      ∙ sum-xor span (λ t. gf_mul bits modulus (own t) (row t)) (put (λ r. 0) number (gf_mul bits modulus factor (row number)))
      ∙ ap (λ (x : ℕ). bit_xor (xor_sum span (λ t. gf_mul bits modulus (own t) (row t))) x)
      (sum-only span (put (λ r. 0) number (gf_mul bits modulus factor (row number))) number l (λ t u d. put-other (λ r. 0) number (gf_mul bits modulus factor (row number)) t d) ∙ put-same (λ r. 0) number (gf_mul bits modulus factor (row number)))
    where
      term : (t : ℕ) → t < span → gf_mul bits modulus (own2 t) (row t) ≡ bit_xor (gf_mul bits modulus (own t) (row t)) (put (λ r. 0) number (gf_mul bits modulus factor (row number)) t)
      term t u = elim (cases_eq t number) [
        | inr d ↦
            ap (λ (x : ℕ). gf_mul bits modulus x (row t)) (others t u d) ∙ sym (xor_zero_r (gf_mul bits modulus (own t) (row t)))
            ∙ ap (λ (x : ℕ). bit_xor (gf_mul bits modulus (own t) (row t)) x) (sym (put-other (λ r. 0) number (gf_mul bits modulus factor (row number)) t d))
        | inl e ↦ subst (λ (r : ℕ). gf_mul bits modulus (own2 r) (row r) ≡ bit_xor (gf_mul bits modulus (own r) (row r)) (put (λ q. 0) number (gf_mul bits modulus factor (row number)) r)) (sym e)
            (ap (λ (x : ℕ). gf_mul bits modulus x (row number)) (old l) ∙ xor_mul (2 ^ bits) (gf_mul bits modulus) (gf_is_field bits modulus h) (own number) factor (row number)
            ∙ ap (λ (x : ℕ). bit_xor (gf_mul bits modulus (own number) (row number)) x) (sym (put-same (λ q. 0) number (gf_mul bits modulus factor (row number)))))
      ]

  -- past it
  noted_past : (row : ℕ → ℕ) → span ≤ number → xor_sum (suc number) (λ t. gf_mul bits modulus (own2 t) (row t)) ≡ bit_xor (xor_sum span (λ t. gf_mul bits modulus (own t) (row t))) (gf_mul bits modulus factor (row number))
  noted_past row l =
      ap (λ (x : ℕ). bit_xor x (gf_mul bits modulus (own2 number) (row number)))
      (sym (sum_short span number (λ t. gf_mul bits modulus (own2 t) (row t)) l (λ t u w. ap (λ (x : ℕ). gf_mul bits modulus x (row t)) (gap t u w) ∙ gf_mul-zero_left bits modulus (row t)))
      ∙ sum-same span (λ t. gf_mul bits modulus (own2 t) (row t)) (λ t. gf_mul bits modulus (own t) (row t)) (λ t u. ap (λ (x : ℕ). gf_mul bits modulus x (row t)) (others t u (omega arith))))
      ∙ ap (λ (x : ℕ). bit_xor (xor_sum span (λ t. gf_mul bits modulus (own t) (row t))) (gf_mul bits modulus x (row number))) (fresh l)

  pub sum_noted : IsModulus bits modulus → (row : ℕ → ℕ) → xor_sum span2 (λ t. gf_mul bits modulus (own2 t) (row t)) ≡ bit_xor (xor_sum span (λ t. gf_mul bits modulus (own t) (row t))) (gf_mul bits modulus factor (row number))
  sum_noted h row = elim (cases_lt span span2) [
    | inl l ↦
        let e : span2 ≡ number + 1 = only l in
        ap (λ (k : ℕ). xor_sum k (λ t. gf_mul bits modulus (own2 t) (row t))) (e ∙ add-one number) ∙ noted_past row (omega arith)
    | inr l ↦
        let e : span2 ≡ span = omega arith in
        ap (λ (k : ℕ). xor_sum k (λ t. gf_mul bits modulus (own2 t) (row t))) e ∙ noted_within h row (omega arith)
  ]

  -- the factors that are not 0 are those that were, and this one
  pub above_noted : (rows : ℕ → ℕ) (i : ℕ) → rows number < i → AllAbove rows i span own → AllAbove rows i span2 own2
  above_noted rows i l h t lt d = elim (cases_eq t number) [
    | inl e ↦ subst (λ (r : ℕ). rows r < i) (sym e) l
    | inr e ↦ elim (cases_lt t span) [
      | inl u ↦ h t u (λ z. d (others t u e ∙ z))
      | inr u ↦ absurd (d (gap t u (let a : span2 ≡ number + 1 = only (omega arith) in omega arith)))
    ]
  ]

pub span_few : (span span2 number : ℕ) → span ≤ span2 → (span < span2 → span2 ≡ number + 1) → (k : ℕ) → span ≤ k → number < k → span2 ≤ k
span_few span span2 number least only k l u = elim (cases_lt span span2) [
  | inl w ↦ let e : span2 ≡ number + 1 = only w in omega arith
  | inr w ↦ omega arith
]

pub not_added : (bits modulus old factor y : ℕ) → y ≡ 0 → bit_xor old (gf_mul bits modulus factor y) ≡ old
not_added bits modulus old factor y e = ap (λ (x : ℕ). bit_xor old (gf_mul bits modulus factor x)) e ∙ ap (λ (x : ℕ). bit_xor old x) (gf_mul-zero_right bits modulus factor) ∙ xor_zero_r old

-- what is added to both
pub xor_moved : (new old kept2 kept z : ℕ) → new ≡ bit_xor old z → kept2 ≡ bit_xor kept z → bit_xor new kept2 ≡ bit_xor old kept
xor_moved new old kept2 kept z e f =
    ap (λ (x : ℕ). bit_xor x kept2) e ∙ ap (λ (x : ℕ). bit_xor (bit_xor old z) x) f ∙ xor_mid old z kept z
    ∙ ap (λ (x : ℕ). bit_xor (bit_xor old kept) x) (xor_self z) ∙ xor_zero_r (bit_xor old kept)

-- a line that is 0 as far as a column is cleared there
pub zeros_more : (column : ℕ) (line new : List ℕ) → ((j : ℕ) → j < column → slice_index line j ≡ 0) → ((j : ℕ) → j < column → slice_index new j ≡ slice_index line j) → slice_index new column ≡ 0
    → (j : ℕ) → j < column + 1 → slice_index new j ≡ 0
zeros_more column line new zeros before here j l = elim (cases_eq j column) [
  | inl e ↦ ap (λ (p : ℕ). slice_index new p) e ∙ here
  | inr d ↦ before j (omega arith) ∙ zeros j (omega arith)
]

pub number_low : {mul : ℕ → ℕ → ℕ} {n stride count : ℕ} {numbers inverse above : List ℕ} {c x : ℕ} → AreLeads mul n stride count numbers inverse above → c < n → slice_index numbers c ≡ x → x < n → x < count
number_low {mul} {n} {stride} {count} {numbers} {inverse} {above} {c} {x} h l e u = let w : slice_index numbers c < count = h.low c l (omega arith) in omega arith

pub left_zeros : (n from to : ℕ) (numbers : List ℕ) (line : ℕ → ℕ) (o : Option ℕ) → IsLeft n from to numbers line o → from ≤ to → (j : ℕ) → j < from → line j ≡ 0
left_zeros n from to numbers line (Some c) h l j u = let a : from ≤ c = h.after in h.zeros j (omega arith)
left_zeros n from to numbers line None h l j u = h.zeros j (omega arith)

pub kept_of : (new old k2 k1 : ℕ) → new ≡ 0 → old ≡ 0 → bit_xor new k2 ≡ bit_xor old k1 → k2 ≡ k1
kept_of new old k2 k1 e f h = sym (ap (λ (x : ℕ). bit_xor x k2) e) ∙ h ∙ ap (λ (x : ℕ). bit_xor x k1) f

pub settled_of : (new old value k2 k1 : ℕ) → old ≡ bit_xor value k1 → bit_xor new k2 ≡ bit_xor old k1 → new ≡ bit_xor value k2
settled_of new old value k2 k1 e h = sym (xor_back new k2) ∙ ap (λ (x : ℕ). bit_xor x k2) (h ∙ ap (λ (x : ℕ). bit_xor x k1) e ∙ xor_back value k1)

-- the first factors of a list
pub kept_front : (bits modulus stride span : ℕ) (own above : List ℕ) (j : ℕ) → span ≤ length own
    → line_kept (gf_mul bits modulus) stride (length (take span own)) (slice_index (take span own)) above j ≡ line_kept (gf_mul bits modulus) stride span (slice_index own) above j
kept_front bits modulus stride span own above j l =
    ap (λ (k : ℕ). line_kept (gf_mul bits modulus) stride k (slice_index (take span own)) above j) (length-take-le span own l)
    ∙ sum-same span (λ t. gf_mul bits modulus (slice_index (take span own) t) (slice_index above (t * stride + j))) (λ t. gf_mul bits modulus (slice_index own t) (slice_index above (t * stride + j)))
    (λ t u. ap (λ (x : ℕ). gf_mul bits modulus x (slice_index above (t * stride + j))) (get_or-take span own t 0 u))
