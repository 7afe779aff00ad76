-- The scans that find the pivots of a reduced form, and the positions without one.
use Rattle.std.proofs.Common.{◌≡◌, ◌≢◌, ℕ, zero, suc, ◌+◌, ◌-◌, ◌<◌, ◌≤◌, Bool, true, false, ◌||◌, eqb, List, [], ◌∷◌, ◌++◌, length, get_or, not, refl, sym, ◌∙◌, ap, subst, inl, inr, arith, add-one}
use Rattle.std.proofs.lemmas.Bool.{cases_Bool, cases_lt, cases_eq, eqb-true, eq-eqb}
use Rattle.std.proofs.lemmas.List.{length-append, get_or_append_left, get_or_push}
use Rattle.linear_theory.specs.Linear.{IsReduced}
use Rattle.linear_theory.proofs.Spans.{put-same}
use Rattle.gf_linear.specs.Matrix.{Matrix, entry}
use Rattle.parity_space.specs.Forms.{HasPivots, is_pivot}
use Rattle.block_theory.proofs.Kept.{kept, kept_more-yes, kept_more-no, AreKept, are_kept}

-- ---- the test for a pivot

or_true : (b : Bool) → (b || true) ≡ true
or_true true = refl
or_true false = refl

pub is_pivot-from : (ps : List ℕ) (j t : ℕ) → t < length ps → get_or ps t 0 ≡ j → is_pivot ps j ≡ true
is_pivot-from [] j t l e = absurd (omega arith)
is_pivot-from (p ∷ ps) j zero l e = ap (λ (b : Bool). b || is_pivot ps j) (eq-eqb p j e)
is_pivot-from (p ∷ ps) j (suc t) l e = ap (λ (b : Bool). eqb p j || b) (is_pivot-from ps j t (omega arith) e) ∙ or_true (eqb p j)

pub is_pivot-not : (ps : List ℕ) (j : ℕ) → ((t : ℕ) → t < length ps → get_or ps t 0 ≢ j) → is_pivot ps j ≡ false
is_pivot-not [] j h = refl
is_pivot-not (p ∷ ps) j h = elim (cases_Bool (eqb p j)) [
  | inl e ↦ absurd (h 0 (omega arith) (eqb-true p j e))
  | inr e ↦ ap (λ (b : Bool). b || is_pivot ps j) e ∙ is_pivot-not ps j (λ t l. h (suc t) (omega arith))
]

pub is_pivot-yes : (ps : List ℕ) (j : ℕ) → is_pivot ps j ≡ true → (t : ℕ) × (t < length ps) × (get_or ps t 0 ≡ j)
is_pivot-yes [] j e = absurd (cc)
is_pivot-yes (p ∷ ps) j e = elim (cases_Bool (eqb p j)) [
  | inl d ↦ (0, omega arith, eqb-true p j d)
  | inr d ↦
      let rest : is_pivot ps j ≡ true = sym (ap (λ (b : Bool). b || is_pivot ps j) d) ∙ e in
      let (t, l, at) = is_pivot-yes ps j rest in
      (suc t, omega arith, at)
]

pub not_pivot : (ps : List ℕ) (j : ℕ) → not (is_pivot ps j) ≡ true → (t : ℕ) → t < length ps → get_or ps t 0 ≢ j
not_pivot ps j h t l e = let is : not (is_pivot ps j) ≡ false = ap not (is_pivot-from ps j t l e) in absurd (cc)

-- ---- the pivots that a list holds

module _ (e : Matrix) (ps : List ℕ) (h : HasPivots e ps) where
  pub listed_within : (t : ℕ) → t < length ps → get_or ps t 0 < e.cols
  listed_within t l = subst (λ (j : ℕ). j < e.cols) (h.are t l) (h.reduced.in_range t l)

  pub listed_rise : (t u : ℕ) → t < u → u < length ps → get_or ps t 0 < get_or ps u 0
  listed_rise t u a l =
      subst (λ (j : ℕ). j < get_or ps u 0) (h.are t (omega arith)) (subst (λ (j : ℕ). h.reduced.pivots t < j) (h.are u l) (h.reduced.rising t u a l))

-- ---- the positions without a pivot, while `left` of the pivots are still to come

pub record IsMerged (n : ℕ) (ps places : List ℕ) (p left : ℕ) : Type 0 where
  pub few : left ≤ length ps
  pub to_come : (t : ℕ) → t < left → get_or ps t 0 + p < n
  pub passed : (t : ℕ) → left ≤ t → t < length ps → n ≤ get_or ps t 0 + p
  pub are : places ≡ kept (λ q. not (is_pivot ps (n - 1 - q))) p
  pub count : length places + length ps ≡ p + left

pub merged_start : (n : ℕ) (ps : List ℕ) → ((t : ℕ) → t < length ps → get_or ps t 0 < n) → IsMerged n ps [] 0 (length ps)
merged_start n ps within = record {
  few = omega arith;
  to_come = λ t l. (let b : get_or ps t 0 < n = within t l in omega arith);
  passed = λ t a l. absurd (omega arith);
  are = refl;
  count = omega arith;
}

module _ (n : ℕ) (ps places : List ℕ) (p left : ℕ) (rising : (t u : ℕ) → t < u → u < length ps → get_or ps t 0 < get_or ps u 0) (h : IsMerged n ps places p left) (within : p < n) where
  -- position p has the next pivot
  pub merged_pivot : 0 < left → get_or ps (left - 1) 0 ≡ n - 1 - p → IsMerged n ps places (p + 1) (left - 1)
  merged_pivot some at =
      let few : left ≤ length ps = h.few in
      let count : length places + length ps ≡ p + left = h.count in record {
        few = omega arith;
        to_come = λ t l. (let b : get_or ps t 0 < get_or ps (left - 1) 0 = rising t (left - 1) l (omega arith) in omega arith);
        passed = λ t a l. elim (cases_eq t (left - 1)) [
          | inl e ↦ (let b : get_or ps t 0 ≡ n - 1 - p = ap (λ (k : ℕ). get_or ps k 0) e ∙ at in omega arith)
          | inr d ↦ (let b : n ≤ get_or ps t 0 + p = h.passed t (omega arith) l in omega arith)
        ];
        are =
            rw (add-one p)
            (h.are
            ∙ sym (kept_more-no (λ q. not (is_pivot ps (n - 1 - q))) p (ap not (is_pivot-from ps (n - 1 - p) (left - 1) (omega arith) at))));
        count = omega arith;
      }

  -- and here it has none
  pub merged_free : (0 < left → get_or ps (left - 1) 0 ≢ n - 1 - p) → IsMerged n ps (places ++ p ∷ []) (p + 1) left
  merged_free apart =
      let few : left ≤ length ps = h.few in
      let count : length places + length ps ≡ p + left = h.count in
      let before : (t : ℕ) → t < left → get_or ps t 0 + (p + 1) < n = λ t l.
      (let low : get_or ps (left - 1) 0 + p < n = h.to_come (left - 1) (omega arith) in
      let d : get_or ps (left - 1) 0 ≢ n - 1 - p = apart (omega arith) in
      elim (cases_eq t (left - 1)) [
        | inl e ↦ (let b : get_or ps t 0 ≡ get_or ps (left - 1) 0 = ap (λ (k : ℕ). get_or ps k 0) e in omega arith)
        | inr e ↦ (let b : get_or ps t 0 < get_or ps (left - 1) 0 = rising t (left - 1) (omega arith) (omega arith) in omega arith)
      ]) in
      let after : (t : ℕ) → left ≤ t → t < length ps → n ≤ get_or ps t 0 + p = h.passed in
      let none : (t : ℕ) → t < length ps → get_or ps t 0 ≢ n - 1 - p = λ t l. elim (cases_lt t left) [
        | inl a ↦ (let b : get_or ps t 0 + (p + 1) < n = before t a in omega arith)
        | inr a ↦ (let b : n ≤ get_or ps t 0 + p = after t a l in omega arith)
      ] in record {
        few = few;
        to_come = before;
        passed = λ t a l. (let b : n ≤ get_or ps t 0 + p = after t a l in omega arith);
        are =
            rw (add-one p)
            (ap (λ (r : List ℕ). r ++ p ∷ []) h.are
            ∙ sym (kept_more-yes (λ q. not (is_pivot ps (n - 1 - q))) p (ap not (is_pivot-not ps (n - 1 - p) none))));
        count = (let w : length (places ++ p ∷ []) ≡ length places + 1 = length-append places (p ∷ []) in omega arith);
      }

pub merged_end : (n : ℕ) (ps places : List ℕ) (p left : ℕ) → p ≡ n → IsMerged n ps places p left → (places ≡ kept (λ q. not (is_pivot ps (n - 1 - q))) n) × (length places + length ps ≡ n)
merged_end n ps places p left e h =
    let count : length places + length ps ≡ p + left = h.count in
    let none : left ≡ 0 = elim (cases_lt 0 left) [
      | inl l ↦ (let b : get_or ps 0 0 + p < n = h.to_come 0 l in absurd (omega arith))
      | inr l ↦ omega arith
    ] in
    (h.are ∙ ap (kept (λ q. not (is_pivot ps (n - 1 - q)))) e, omega arith)

-- ---- the pivots of a reduced form, by its columns from the left

pub record IsScanned (cols rows : ℕ) (e : ℕ → ℕ → ℕ) (ps : List ℕ) (j : ℕ) : Type 0 where
  pub few : length ps ≤ rows
  pub known : (k : ℕ) → IsReduced cols e rows k → length ps ≤ k
  pub are : (k : ℕ) (h : IsReduced cols e rows k) (t : ℕ) → t < length ps → h.pivots t ≡ get_or ps t 0
  pub rest : (k : ℕ) (h : IsReduced cols e rows k) (t : ℕ) → length ps ≤ t → t < k → j ≤ h.pivots t

pub scanned_start : (cols rows : ℕ) (e : ℕ → ℕ → ℕ) → IsScanned cols rows e [] 0
scanned_start cols rows e = record {
  few = omega arith;
  known = λ k h. omega arith;
  are = λ k h t l. absurd (omega arith);
  rest = λ k h t a l. omega arith;
}

module _ (cols rows : ℕ) (e : ℕ → ℕ → ℕ) (ps : List ℕ) (j : ℕ) (within : j < cols) (s : IsScanned cols rows e ps j) where
  pub scanned_pivot : length ps < rows → e (length ps) j ≢ 0 → IsScanned cols rows e (ps ++ j ∷ []) (j + 1)
  scanned_pivot room some = record {
    few = omega (arith, long);
    known = λ k h. (let b : length ps < k = before k h in omega (arith, long));
    are = λ k h t l. elim (cases_eq t (length ps)) [
      | inl d ↦ ap h.pivots d ∙ here k h ∙ sym (get_or_push ps j 0 t (sym d))
      | inr d ↦ s.are k h t (omega (arith, long)) ∙ sym (get_or_append_left ps (j ∷ []) 0 t (omega (arith, long)))
    ];
    rest = λ k h t a l. (let b : h.pivots (length ps) < h.pivots t = h.rising (length ps) t (omega (arith, long)) l in
        let at : h.pivots (length ps) ≡ j = here k h in omega (arith, long));
  }
    where
      long : length (ps ++ j ∷ []) ≡ length ps + 1
      long = length-append ps (j ∷ [])

      before : (k : ℕ) → IsReduced cols e rows k → length ps < k
      before k h = elim (cases_lt (length ps) k) [ inl l ↦ l | inr l ↦ absurd (some (h.zeros (length ps) j l room within)) ]

      here : (k : ℕ) (h : IsReduced cols e rows k) → h.pivots (length ps) ≡ j
      here k h =
          let low : j ≤ h.pivots (length ps) = s.rest k h (length ps) (omega arith) (before k h) in
          elim (cases_lt j (h.pivots (length ps))) [
            | inl l ↦ absurd (some (h.before (length ps) j (before k h) l))
            | inr l ↦ omega arith
          ]

  pub scanned_none : (length ps < rows → e (length ps) j ≡ 0) → IsScanned cols rows e ps (j + 1)
  scanned_none none = record {
    few = s.few;
    known = s.known;
    are = s.are;
    rest = λ k h t a l. (let low : j ≤ h.pivots t = s.rest k h t a l in
        let few : k ≤ rows = h.few in
        let apart : h.pivots t ≢ j = λ at. elim (cases_eq t (length ps)) [
          | inl d ↦
              let one : e t (h.pivots t) ≡ 1 = h.columns t t l l ∙ put-same (λ i. 0) t 1 in
              let zero' : e t (h.pivots t) ≡ 0 = ap (e t) at ∙ ap (λ (q : ℕ). e q j) d ∙ none (omega arith) in omega arith
          | inr d ↦
              let b : h.pivots (length ps) < h.pivots t = h.rising (length ps) t (omega arith) l in
              let c : j ≤ h.pivots (length ps) = s.rest k h (length ps) (omega arith) (omega arith) in omega arith
        ] in
        omega arith);
  }

pub scanned_end : (e : Matrix) (ps : List ℕ) (j : ℕ) → e.cols ≤ j → IsScanned e.cols (length e.rows) (entry e) ps j → (k : ℕ) × IsReduced e.cols (entry e) (length e.rows) k → HasPivots e ps
scanned_end e ps j past s (k, h) =
    let known : length ps ≤ k = s.known k h in
    let all : k ≡ length ps = elim (cases_lt (length ps) k) [
      | inl l ↦ (let low : j ≤ h.pivots (length ps) = s.rest k h (length ps) (omega arith) l in
          let in_range : h.pivots (length ps) < e.cols = h.in_range (length ps) l in absurd (omega arith))
      | inr l ↦ omega arith
    ] in
    let g : IsReduced e.cols (entry e) (length e.rows) (length ps) = subst (λ (m : ℕ). IsReduced e.cols (entry e) (length e.rows) m) all h in
    record { reduced = g; are = s.are (length ps) g }

pub pivots-within : (e : Matrix) (ps : List ℕ) → HasPivots e ps → (t : ℕ) → t < length ps → get_or ps t 0 < e.cols
pivots-within e ps h t l = subst (λ (j : ℕ). j < e.cols) (h.are t l) (h.reduced.in_range t l)

pub pivots-rise : (e : Matrix) (ps : List ℕ) → HasPivots e ps → (t u : ℕ) → t < u → u < length ps → get_or ps t 0 < get_or ps u 0
pivots-rise e ps h t u a l =
    subst (λ (j : ℕ). j < get_or ps u 0) (h.are t (omega arith)) (subst (λ (j : ℕ). h.reduced.pivots t < j) (h.are u l) (h.reduced.rising t u a l))

pub pivots-apart : (e : Matrix) (ps : List ℕ) → HasPivots e ps → (t u : ℕ) → t < length ps → u < length ps → get_or ps t 0 ≡ get_or ps u 0 → t ≡ u
pivots-apart e ps h t u lt lu d = elim (cases_lt t u) [
  | inl a ↦ (let b : get_or ps t 0 < get_or ps u 0 = pivots-rise e ps h t u a lu in absurd (omega arith))
  | inr a ↦ elim (cases_lt u t) [
    | inl c ↦ (let b : get_or ps u 0 < get_or ps t 0 = pivots-rise e ps h u t c lt in absurd (omega arith))
    | inr c ↦ omega arith
  ]
]

-- the positions that are kept are positions without a pivot
pub free_place-within : (n : ℕ) (ps places : List ℕ) → places ≡ kept (λ q. not (is_pivot ps (n - 1 - q))) n → (i : ℕ) → i < length places → get_or places i 0 < n
free_place-within n ps places e = (subst (AreKept (λ q. not (is_pivot ps (n - 1 - q))) n) (sym e) (are_kept (λ q. not (is_pivot ps (n - 1 - q))) n)).below

pub free_place-apart : (n : ℕ) (ps places : List ℕ) → places ≡ kept (λ q. not (is_pivot ps (n - 1 - q))) n → (i t : ℕ) → i < length places → t < length ps → get_or ps t 0 ≢ n - 1 - get_or places i 0
free_place-apart n ps places e i t l lt d =
    let pass : not (is_pivot ps (n - 1 - get_or places i 0)) ≡ true = (subst (AreKept (λ q. not (is_pivot ps (n - 1 - q))) n) (sym e) (are_kept (λ q. not (is_pivot ps (n - 1 - q))) n)).pass i l in
    let fail : not (is_pivot ps (n - 1 - get_or places i 0)) ≡ false = ap not (is_pivot-from ps (n - 1 - get_or places i 0) t lt d) in
    absurd (cc)
