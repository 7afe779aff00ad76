-- Two places of an order that are exchanged, and the lists in that order
use Rattle.std.proofs.Common.{◌≡◌, ◌≢◌, ℕ, suc, ◌+◌, ◌<◌, ◌≤◌, cond, eqb, List, length, get_or, slice_index, sym, ◌∙◌, ap, subst, refl, inl, inr, arith}
use Rattle.std.proofs.Math.ListN.{set}
use Rattle.std.proofs.lemmas.Bool.{cases_eq, cases_order, cond-true, cond-false, eq-eqb, ne_eqb}
use Rattle.std.proofs.lemmas.List.{get_or-set_same, get_or-set_other, length-set}
use Rattle.field_theory.specs.Sums.{unit}
use Rattle.linear_theory.specs.Functionals.{AreFunctionals}
use Rattle.linear_theory.specs.Linear.{dot, IsCombination, rank}
use Rattle.field_theory.specs.Field.{IsField}
use Rattle.field_theory.proofs.Sums.{eq_or_below}
use Rattle.linear_theory.proofs.Spans.{put-other}
use Rattle.linear_theory.proofs.Ranks.{rank_same}

abbrev pub swapped : ℕ → ℕ → ℕ → ℕ
swapped k i t = cond (eqb t k) i (cond (eqb t i) k t)

pub swapped-first : (k i : ℕ) → swapped k i k ≡ i
swapped-first k i = cond-true (eqb k k) i (cond (eqb k i) k k) (eq-eqb k k refl)

pub swapped-other : (k i t : ℕ) → t ≢ k → t ≢ i → swapped k i t ≡ t
swapped-other k i t d e = cond-false (eqb t k) i (cond (eqb t i) k t) (ne_eqb t k d) ∙ cond-false (eqb t i) k t (ne_eqb t i e)

pub swapped-second : (k i : ℕ) → swapped k i i ≡ k
swapped-second k i = elim (cases_eq i k) [
  | inl e ↦ cond-true (eqb i k) i (cond (eqb i i) k i) (eq-eqb i k e) ∙ e
  | inr d ↦ cond-false (eqb i k) i (cond (eqb i i) k i) (ne_eqb i k d) ∙ cond-true (eqb i i) k i (eq-eqb i i refl)
]

pub swapped-back : (k i t : ℕ) → swapped k i (swapped k i t) ≡ t
swapped-back k i t = elim (cases_eq t k) [
  | inl e ↦ subst (λ (s : ℕ). swapped k i (swapped k i s) ≡ s) (sym e) (ap (λ (s : ℕ). swapped k i s) (swapped-first k i) ∙ swapped-second k i)
  | inr d ↦ elim (cases_eq t i) [
    | inl e ↦ subst (λ (s : ℕ). swapped k i (swapped k i s) ≡ s) (sym e) (ap (λ (s : ℕ). swapped k i s) (swapped-second k i) ∙ swapped-first k i)
    | inr f ↦ ap (λ (s : ℕ). swapped k i s) (swapped-other k i t d f) ∙ swapped-other k i t d f
  ]
]

pub swapped-below : (k i t n : ℕ) → k < n → i < n → t < n → swapped k i t < n
swapped-below k i t n lk li lt = elim (cases_eq t k) [
  | inl e ↦ subst (λ (s : ℕ). swapped k i s < n) (sym e) (subst (λ (s : ℕ). s < n) (sym (swapped-first k i)) li)
  | inr d ↦ elim (cases_eq t i) [
    | inl e ↦ subst (λ (s : ℕ). swapped k i s < n) (sym e) (subst (λ (s : ℕ). s < n) (sym (swapped-second k i)) lk)
    | inr f ↦ subst (λ (s : ℕ). s < n) (sym (swapped-other k i t d f)) lt
  ]
]

pub swapped-apart : (k i s t : ℕ) → s ≢ t → swapped k i s ≢ swapped k i t
swapped-apart k i s t d e = d (sym (swapped-back k i s) ∙ ap (λ (x : ℕ). swapped k i x) e ∙ swapped-back k i t)

-- ---- what is written
pub order_swapped : (order : List ℕ) (k i t : ℕ) → k ≤ i → i < length order → get_or (set (set order i (get_or order k 0)) k (get_or order i 0)) t 0 ≡ get_or order (swapped k i t) 0
order_swapped order k i t up low = elim (cases_eq t k) [
  | inl e ↦
      subst (λ (s : ℕ). get_or (set (set order i (get_or order k 0)) k (get_or order i 0)) s 0 ≡ get_or order (swapped k i s) 0) (sym e)
      (get_or-set_same (set order i (get_or order k 0)) k (get_or order i 0) 0 (let l : length (set order i (get_or order k 0)) ≡ length order = length-set order i (get_or order k 0) in omega arith)
      ∙ ap (λ (s : ℕ). get_or order s 0) (sym (swapped-first k i)))
  | inr d ↦ get_or-set_other (set order i (get_or order k 0)) k t (get_or order i 0) 0 d ∙ elim (cases_eq t i) [
    | inl e ↦
        subst (λ (s : ℕ). get_or (set order i (get_or order k 0)) s 0 ≡ get_or order (swapped k i s) 0) (sym e)
        (get_or-set_same order i (get_or order k 0) 0 low ∙ ap (λ (s : ℕ). get_or order s 0) (sym (swapped-second k i)))
    | inr f ↦ get_or-set_other order i t (get_or order k 0) 0 f ∙ ap (λ (s : ℕ). get_or order s 0) (sym (swapped-other k i t d f))
  ]
]

-- ---- numbers that rise in no order are apart
pub apart : (n : ℕ) (order : List ℕ) → ((j k : ℕ) → j < k → k < n → slice_index order j ≢ slice_index order k) → (j k : ℕ) → j < n → k < n → j ≢ k → slice_index order j ≢ slice_index order k
apart n order h j k lj lk d = elim (cases_order j k) [
  | inl e ↦ absurd (d e)
  | inr (inl l) ↦ h j k l lk
  | inr (inr l) ↦ (λ e. h k j l lj (sym e))
]

module _ (size : ℕ) (mul : ℕ → ℕ → ℕ) (n : ℕ) (rows : ℕ → ℕ → ℕ) where
  unit_zero : (t q : ℕ) → t < q → unit t q ≡ 0
  unit_zero t q l = put-other (λ i. 0) t 1 q (λ e. omega arith)

  -- lists beyond the dual ones may stand in any order
  pub functionals_swapped : (r k i : ℕ) (picks : ℕ → ℕ) (U : ℕ → ℕ → ℕ) → k ≤ i → i < n → AreFunctionals size mul n rows r k picks U → AreFunctionals size mul n rows r k picks (λ t. U (swapped k i t))
  functionals_swapped r k i picks U up low h = record {
    below = h.below;
    rising = h.rising;
    fresh = h.fresh;
    others = h.others;
    products = λ t q l m. elim (cases_eq q k) [
      | inl e ↦
          subst (λ (s : ℕ). dot mul n (rows (picks t)) (U (swapped k i s)) ≡ unit t s) (sym e)
          (ap (λ (s : ℕ). dot mul n (rows (picks t)) (U s)) (swapped-first k i) ∙ h.products t i l low ∙ unit_zero t i (omega arith) ∙ sym (unit_zero t k l))
      | inr d ↦ elim (cases_eq q i) [
        | inl e ↦
            subst (λ (s : ℕ). dot mul n (rows (picks t)) (U (swapped k i s)) ≡ unit t s) (sym e)
            (ap (λ (s : ℕ). dot mul n (rows (picks t)) (U s)) (swapped-second k i) ∙ h.products t k l (omega arith) ∙ unit_zero t k l ∙ sym (unit_zero t i (omega arith)))
        | inr f ↦ ap (λ (s : ℕ). dot mul n (rows (picks t)) (U s)) (swapped-other k i q d f) ∙ h.products t q l m
      ]
    ];
    seen = λ w small z. h.seen w small (λ q l. subst (λ (s : ℕ). dot mul n w (U s) ≡ 0) (swapped-back k i q) (z (swapped k i q) (swapped-below k i q n (omega arith) low l)));
    counted = h.counted;
  }

  -- a row that is known to be a combination of those before it
  pub functionals_skipped : IsField size mul → (r k : ℕ) (picks : ℕ → ℕ) (U : ℕ → ℕ → ℕ) → IsCombination mul n rows r (rows r) → AreFunctionals size mul n rows r k picks U → AreFunctionals size mul n rows (r + 1) k picks U
  functionals_skipped field r k picks U spanned h = record {
    below = λ t l. let m : picks t < r = h.below t l in omega arith;
    rising = h.rising;
    fresh = h.fresh;
    others = λ i l d. elim (eq_or_below i r (let m : i < suc r = omega arith in m)) [
      | inl e ↦ subst (λ (j : ℕ). IsCombination mul n rows j (rows j)) (sym e) spanned
      | inr m ↦ h.others i m d
    ];
    products = h.products;
    seen = h.seen;
    counted = h.counted ∙ sym (rank_same size mul field n rows r spanned) ∙ ap (λ (s : ℕ). rank size mul n rows s) (let e : suc r ≡ r + 1 = omega arith in e);
  }
