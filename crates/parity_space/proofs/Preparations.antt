-- The parts of a `Parity` fit together.
use Rattle.std.proofs.Common.{◌≡◌, ◌≢◌, ℕ, ◌+◌, ◌-◌, ◌<◌, ◌≤◌, ◌^◌, List, [], length, drop, get_or, slice_index, sym, ◌∙◌, ap, subst, inl, inr, arith}
use Rattle.std.specs.Prelude.{nat_lt}
use Rattle.std.proofs.lemmas.Bool.{cases_lt, cond-true, cond-false, lt-ltb, le-ltb}
use Rattle.std.proofs.lemmas.Nat.{pow_pos}
use Rattle.std.proofs.lemmas.List.{get_or-drop, get_or_past}
use Rattle.field_theory.specs.Sums.{unit}
use Rattle.field_theory.proofs.Sums.{sum-same}
use Rattle.gf_theory.specs.Field.{gf_mul, IsModulus}
use Rattle.order_theory.specs.Basis.{IsWord}
use Rattle.gf_linear.specs.Matrix.{Matrix, row, entry, IsOver}
use Rattle.gf_linear.specs.Elimination.{IsEchelonOf}
use Rattle.block_theory.specs.Checks.{check_at, is_message_place}
use Rattle.parity_space.specs.Forms.{IsMirrorOf, HasPivots, free_places, IsUnitWord}
use Rattle.parity_space.specs.Prepared.{checks_in, unit_at, IsPrepared}
use Rattle.parity_space.specs.declared.Parity.TheInside.{Inside}
use Rattle.block_theory.proofs.Completing.{message_place-from}
use Rattle.parity_space.proofs.Fronts.{front_kept}
use Rattle.parity_space.proofs.Reductions.{are_checks, vectors_over, free_place, places_right, kept, word_orthogonal, word_below, word_at_places}

module _ (s : Inside) (field : IsModulus s.bits s.modulus) (words : (i : ℕ) → i < length s.vectors.rows → IsWord s.bits s.n (row s.vectors i)) (cols : s.vectors.cols ≡ s.n) (mirror e : Matrix) (pivots : List ℕ)
    (is_mirror : IsMirrorOf s.vectors mirror) (echelon : IsEchelonOf s.bits s.modulus mirror e) (found : HasPivots e pivots) (places_is : s.places.items ≡ free_places s.n pivots)
    (first_within : s.first ≤ s.n) (first_below : (t : ℕ) → t < length pivots → s.first ≤ s.n - 1 - get_or pivots t 0) (tail_rows : length s.tails.rows ≡ length s.places.items)
    (tail_width : s.first + s.tails.cols ≡ s.n) (tails : (i : ℕ) → i < length s.places.items → (word : List ℕ) × IsUnitWord e pivots s.n (get_or s.places.items i 0) word × (row s.tails i ≡ drop s.first word)) where
  front_free : (p : ℕ) → p < s.first → (t : ℕ) → t < length pivots → get_or pivots t 0 ≢ s.n - 1 - p
  front_free p l t lt d = (let low : s.first ≤ s.n - 1 - get_or pivots t 0 = first_below t lt in absurd (omega arith))

  front_places : (p : ℕ) → p < s.first → (p < length s.places.items) × (get_or s.places.items p 0 ≡ p)
  front_places =
      front_kept (is_message_place (checks_in s)) s.n s.places.items s.first (kept s.bits s.modulus s.n s.vectors field words cols mirror e pivots is_mirror echelon found s.places.items places_is) first_within
      (λ q l. message_place-from (checks_in s) (are_checks s.bits s.modulus s.n s.vectors field words cols mirror e pivots is_mirror echelon found) q (free_place s.bits s.modulus s.n s.vectors field words cols mirror e pivots is_mirror echelon found q (omega arith) (front_free q l)))

  few_front : s.first ≤ length s.places.items
  few_front = elim (cases_lt 0 s.first) [
    | inl l ↦ (let last : s.first - 1 < length s.places.items = (front_places (s.first - 1) (omega arith)).0 in omega arith)
    | inr l ↦ omega arith
  ]

  unit_is_word : (i : ℕ) → i < length s.places.items → (word : List ℕ) → IsUnitWord e pivots s.n (get_or s.places.items i 0) word → row s.tails i ≡ drop s.first word → (p : ℕ) → p < s.n → unit_at s i p ≡ slice_index word p
  unit_is_word i li word is_unit tail_is p l = elim (cases_lt p s.first) [
    | inl a ↦
        let (lp, at) = front_places p a in
        cond-true (nat_lt p s.first) (unit i p) (entry s.tails i (p - s.first)) (lt-ltb p s.first a)
        ∙ sym (word_at_places s.bits s.modulus s.n s.vectors field words cols mirror e pivots is_mirror echelon found s.places.items places_is i li word is_unit p lp)
        ∙ ap (slice_index word) at
    | inr a ↦
        cond-false (nat_lt p s.first) (unit i p) (entry s.tails i (p - s.first)) (le-ltb p s.first a)
        ∙ ap (λ (r : List ℕ). get_or r (p - s.first) 0) tail_is
        ∙ get_or-drop s.first word (p - s.first) 0
        ∙ ap (slice_index word) (let w : s.first + (p - s.first) ≡ p = omega arith in w)
  ]

  tails_over : IsOver s.bits s.tails
  tails_over = record {
    below = λ i q. elim (cases_lt i (length s.tails.rows)) [
      | inl l ↦
          let li : i < length s.places.items = omega arith in
          let (word, is_unit, tail_is) = tails i li in
          subst (λ (v : ℕ). v < 2 ^ s.bits) (sym (ap (λ (r : List ℕ). get_or r q 0) tail_is ∙ get_or-drop s.first word q 0)) (word_below s.bits s.modulus s.n s.vectors field words cols mirror e pivots is_mirror echelon found s.places.items places_is i li word is_unit (s.first + q))
      | inr l ↦ subst (λ (r : List ℕ). get_or r q 0 < 2 ^ s.bits) (sym (get_or_past s.tails.rows i [] l)) (subst (λ (v : ℕ). v < 2 ^ s.bits) (sym (get_or_past [] q 0 (omega arith))) (pow_pos s.bits))
    ];
  }

  pub prepared : IsPrepared s
  prepared = record {
    checks = are_checks s.bits s.modulus s.n s.vectors field words cols mirror e pivots is_mirror echelon found;
    width = cols;
    symbols = vectors_over s.bits s.modulus s.n s.vectors field words cols mirror e pivots is_mirror echelon found;
    places = places_right s.bits s.modulus s.n s.vectors field words cols mirror e pivots is_mirror echelon found s.places.items places_is;
    first_few = few_front;
    first_are = λ p l. (front_places p l).1;
    tail_rows = tail_rows;
    tail_width = tail_width;
    tail_symbols = tails_over;
    orthogonal = λ i q li lq. (let (word, is_unit, tail_is) = tails i li in
        sum-same s.n (λ p. gf_mul s.bits s.modulus (unit_at s i p) (check_at (checks_in s) q p)) (λ p. gf_mul s.bits s.modulus (slice_index word p) (check_at (checks_in s) q p))
        (λ p lp. ap (λ (v : ℕ). gf_mul s.bits s.modulus v (check_at (checks_in s) q p)) (unit_is_word i li word is_unit tail_is p lp))
        ∙ word_orthogonal s.bits s.modulus s.n s.vectors field words cols mirror e pivots is_mirror echelon found s.places.items places_is i li word is_unit q lq);
    units = λ i j li lj. (let (word, is_unit, tail_is) = tails i li in
        unit_is_word i li word is_unit tail_is (get_or s.places.items j 0) ((kept s.bits s.modulus s.n s.vectors field words cols mirror e pivots is_mirror echelon found s.places.items places_is).below j lj) ∙ word_at_places s.bits s.modulus s.n s.vectors field words cols mirror e pivots is_mirror echelon found s.places.items places_is i li word is_unit j lj);
  }
