-- Each polynomial has a normal form
use Rattle.std.proofs.lemmas.Bool.{cases_eq, cases_lt, cases_Bool, and_parts, and_from, and_left, and_right, eqb-true, eq-eqb, ne_eqb, ltb-false, lt-ltb, le-ltb, leb-true, le-leb, lt-leb, cond-true, cond-false, cond_both, both_ways}
use Rattle.std.specs.List.{AllByRecursion}
use Rattle.std.proofs.lemmas.List.Elements.{recursion_from_All}
use Rattle.std.proofs.Common.{◌≡◌, ◌≢◌, ℕ, zero, suc, ◌+◌, ◌-◌, ◌*◌, ◌<◌, ◌≤◌, Bool, true, false, cond, eqb, ltb, leb, ◌&&◌, not, List, [], ◌∷◌, ◌++◌, sym, ◌∙◌, ap, subst, refl, inl, inr, arith, bit_xor}
use Rattle.std.specs.Int.Bits.{xor_assoc, xor_self, xor_zero_r}
use Rattle.std.specs.Int.{IsGcd}
use Rattle.field_theory.specs.Field.{IsField}
use Rattle.curve_theory.specs.Semigroup.{is_member}
use Rattle.curve_theory.specs.Curve.{Term, coefficient, IsEquation}
use Rattle.curve_theory.specs.Normal.{weight_coefficient, inverse_of, others, times_monomial, relation, times_y, normal_form}
use Rattle.curve_theory.specs.Polynomial.{IsPolynomial, one, shift_y, times_terms, IsSameModulo, by_weights, IsNormalForm}
use Rattle.curve_theory.proofs.Semigroup.{exponents_unique, is_member-weight}
use Rattle.field_theory.proofs.Sums.{xor_mid, xor_left_comm, xor_cancel, mul-zero, mul_left_comm, zero_below, mul_one}
use Rattle.curve_theory.proofs.Values.{coefficient_below, mul-inverse_of}
use Rattle.curve_theory.proofs.Normal.{IsNormalTerm, AreNormal, all_append, all_weaken, times_monomial-normal, weight_coefficient-beyond, weight_coefficient-not_member, weight_coefficient_below}
use Rattle.curve_theory.proofs.Product.{normal_form-is_normal}
use Rattle.curve_theory.proofs.Unique.{polynomial_xor, times_terms-xor, times_terms-zero}

abbrev pub term : ℕ → ℕ → ℕ → Term
term i j c = record { i = i; j = j; c = c }

one-same : (t : Term) (i j : ℕ) → t.i ≡ i → t.j ≡ j → one t i j ≡ t.c
one-same t i j e f = cond-true (eqb t.i i && eqb t.j j) t.c 0 (and_from (eqb t.i i) (eqb t.j j) (eq-eqb t.i i e) (eq-eqb t.j j f))

pub one-other_x : (t : Term) (i j : ℕ) → t.i ≢ i → one t i j ≡ 0
one-other_x t i j d = cond-false (eqb t.i i && eqb t.j j) t.c 0 (and_left (eqb t.i i) (eqb t.j j) (ne_eqb t.i i d))

one-other_y : (t : Term) (i j : ℕ) → t.j ≢ j → one t i j ≡ 0
one-other_y t i j d = cond-false (eqb t.i i && eqb t.j j) t.c 0 (and_right (eqb t.i i) (eqb t.j j) (ne_eqb t.j j d))

pub coefficient-append : (ss ts : List Term) (i j : ℕ) → coefficient (ss ++ ts) i j ≡ bit_xor (coefficient ss i j) (coefficient ts i j)
coefficient-append [] ts i j = refl
coefficient-append (s ∷ ss) ts i j =
    ap (λ z. bit_xor (one s i j) z) (coefficient-append ss ts i j) ∙ sym (xor_assoc (one s i j) (coefficient ss i j) (coefficient ts i j))

module _ (size : ℕ) (mul : ℕ → ℕ → ℕ) (field : IsField size mul) where
  pub one-polynomial : (t : Term) → t.c < size → IsPolynomial size (one t)
  one-polynomial t h = record {
    symbol = λ i j. cond_both (eqb t.i i && eqb t.j j) t.c 0 (λ z. z < size) (λ e. h) (λ e. zero_below size mul field);
    bound = t.i + t.j + 1;
    x_beyond = λ i j l. one-other_x t i j (λ e. absurd (omega arith));
    y_beyond = λ i j l. one-other_y t i j (λ e. absurd (omega arith));
  }

  pub zero-polynomial : IsPolynomial size (λ i j. 0)
  zero-polynomial = record { symbol = λ i j. zero_below size mul field; bound = 0; x_beyond = λ i j l. refl; y_beyond = λ i j l. refl }

  shift_y-symbol : (p : ℕ → ℕ → ℕ) → IsPolynomial size p → (i j : ℕ) → shift_y p i j < size
  shift_y-symbol p h i zero = zero_below size mul field
  shift_y-symbol p h i (suc j) = h.symbol i j

  shift_y-x_beyond : (p : ℕ → ℕ → ℕ) (n : ℕ) → ((i j : ℕ) → n ≤ i → p i j ≡ 0) → (i j : ℕ) → suc n ≤ i → shift_y p i j ≡ 0
  shift_y-x_beyond p n h i zero l = refl
  shift_y-x_beyond p n h i (suc j) l = h i j (omega arith)

  shift_y-y_beyond : (p : ℕ → ℕ → ℕ) (n : ℕ) → ((i j : ℕ) → n ≤ j → p i j ≡ 0) → (i j : ℕ) → suc n ≤ j → shift_y p i j ≡ 0
  shift_y-y_beyond p n h i zero l = refl
  shift_y-y_beyond p n h i (suc j) l = h i j (omega arith)

  pub shift_y-polynomial : (p : ℕ → ℕ → ℕ) → IsPolynomial size p → IsPolynomial size (shift_y p)
  shift_y-polynomial p h = record {
    symbol = shift_y-symbol p h;
    bound = suc h.bound;
    x_beyond = shift_y-x_beyond p h.bound h.x_beyond;
    y_beyond = shift_y-y_beyond p h.bound h.y_beyond;
  }

  pub same_refl : (ts : List Term) (p : ℕ → ℕ → ℕ) → IsSameModulo size mul ts p p
  same_refl ts p = record {
    multiple = λ i j. 0;
    is_polynomial = zero-polynomial;
    difference = λ i j. xor_self (p i j) ∙ sym (times_terms-zero size mul field ts (λ k l. 0) (λ k l. refl) i j);
  }

  pub same_change : (ts : List Term) (p q r s : ℕ → ℕ → ℕ) → ((i j : ℕ) → r i j ≡ p i j) → ((i j : ℕ) → s i j ≡ q i j) → IsSameModulo size mul ts p q → IsSameModulo size mul ts r s
  same_change ts p q r s e f h = record {
    multiple = h.multiple;
    is_polynomial = h.is_polynomial;
    difference = λ i j. ap (λ z. bit_xor z (s i j)) (e i j) ∙ ap (λ z. bit_xor (p i j) z) (f i j) ∙ h.difference i j;
  }

  pub same_xor : (ts : List Term) (p q r s : ℕ → ℕ → ℕ) → IsSameModulo size mul ts p q → IsSameModulo size mul ts r s →
      IsSameModulo size mul ts (λ i j. bit_xor (p i j) (r i j)) (λ i j. bit_xor (q i j) (s i j))
  same_xor ts p q r s h k = record {
    multiple = λ i j. bit_xor (h.multiple i j) (k.multiple i j);
    is_polynomial = polynomial_xor size mul field h.multiple k.multiple h.is_polynomial k.is_polynomial;
    difference = λ i j.
        xor_mid (p i j) (r i j) (q i j) (s i j)
        ∙ ap (λ z. bit_xor z (bit_xor (r i j) (s i j))) (h.difference i j)
        ∙ ap (λ z. bit_xor (times_terms mul ts h.multiple i j) z) (k.difference i j)
        ∙ sym (times_terms-xor size mul field ts h.multiple k.multiple i j);
  }

  pub same_trans : (ts : List Term) (p q r : ℕ → ℕ → ℕ) → IsSameModulo size mul ts p q → IsSameModulo size mul ts q r → IsSameModulo size mul ts p r
  same_trans ts p q r h k = record {
    multiple = λ i j. bit_xor (h.multiple i j) (k.multiple i j);
    is_polynomial = polynomial_xor size mul field h.multiple k.multiple h.is_polynomial k.is_polynomial;
    difference = λ i j.
        sym (xor_assoc (p i j) (q i j) (bit_xor (q i j) (r i j)) ∙ ap (λ z. bit_xor (p i j) z) (xor_cancel (q i j) (r i j)))
        ∙ ap (λ z. bit_xor z (bit_xor (q i j) (r i j))) (h.difference i j)
        ∙ ap (λ z. bit_xor (times_terms mul ts h.multiple i j) z) (k.difference i j)
        ∙ sym (times_terms-xor size mul field ts h.multiple k.multiple i j);
  }

  -- y times a multiple
  shift_test : (si sj sc : ℕ) (p : ℕ → ℕ → ℕ) (i j : ℕ) →
      cond (leb si i && leb sj (suc j)) (mul sc (shift_y p (i - si) (suc j - sj))) 0 ≡ cond (leb si i && leb sj j) (mul sc (p (i - si) (j - sj))) 0
  shift_test si sj sc p i j =
      elim (cases_lt j sj) [
        | inl m ↦
            let z : suc j - sj ≡ 0 = omega arith in
            cond_both (leb si i && leb sj (suc j)) (mul sc (shift_y p (i - si) (suc j - sj))) 0 (λ q. q ≡ 0)
            (λ e. ap (λ q. mul sc (shift_y p (i - si) q)) z ∙ mul-zero size mul field sc) (λ e. refl)
            ∙ sym (cond-false (leb si i && leb sj j) (mul sc (p (i - si) (j - sj))) 0 (and_right (leb si i) (leb sj j) (lt-leb sj j m)))
        | inr m ↦
            let s : suc j - sj ≡ suc (j - sj) = omega arith in
            ap (λ q. cond (leb si i && q) (mul sc (shift_y p (i - si) (suc j - sj))) 0) (le-leb sj (suc j) (omega arith) ∙ sym (le-leb sj j m))
            ∙ ap (λ q. cond (leb si i && leb sj j) (mul sc (shift_y p (i - si) q)) 0) s
      ]

  shift_test_zero : (si sj sc : ℕ) (p : ℕ → ℕ → ℕ) (i : ℕ) → cond (leb si i && leb sj 0) (mul sc (shift_y p (i - si) (0 - sj))) 0 ≡ 0
  shift_test_zero si sj sc p i =
      let z : 0 - sj ≡ 0 = omega arith in
      cond_both (leb si i && leb sj 0) (mul sc (shift_y p (i - si) (0 - sj))) 0 (λ q. q ≡ 0)
      (λ e. ap (λ q. mul sc (shift_y p (i - si) q)) z ∙ mul-zero size mul field sc) (λ e. refl)

  times_terms-shift_y : (ss : List Term) (p : ℕ → ℕ → ℕ) (i j : ℕ) → times_terms mul ss (shift_y p) i j ≡ shift_y (times_terms mul ss p) i j
  times_terms-shift_y [] p i zero = refl
  times_terms-shift_y [] p i (suc j) = refl
  times_terms-shift_y (s ∷ ss) p i zero =
      ap (λ z. bit_xor z (times_terms mul ss (shift_y p) i 0)) (shift_test_zero s.i s.j s.c p i) ∙ times_terms-shift_y ss p i zero
  times_terms-shift_y (s ∷ ss) p i (suc j) =
      ap (λ z. bit_xor z (times_terms mul ss (shift_y p) i (suc j))) (shift_test s.i s.j s.c p i j)
      ∙ ap (λ z. bit_xor (cond (leb s.i i && leb s.j j) (mul s.c (p (i - s.i) (j - s.j))) 0) z) (times_terms-shift_y ss p i (suc j))

  shift_y-xor : (p q r : ℕ → ℕ → ℕ) → ((i j : ℕ) → bit_xor (p i j) (q i j) ≡ r i j) → (i j : ℕ) → bit_xor (shift_y p i j) (shift_y q i j) ≡ shift_y r i j
  shift_y-xor p q r h i zero = refl
  shift_y-xor p q r h i (suc j) = h i j

  pub same_shift_y : (ts : List Term) (p q : ℕ → ℕ → ℕ) → IsSameModulo size mul ts p q → IsSameModulo size mul ts (shift_y p) (shift_y q)
  same_shift_y ts p q h = record {
    multiple = shift_y h.multiple;
    is_polynomial = shift_y-polynomial h.multiple h.is_polynomial;
    difference = λ i j. shift_y-xor p q (times_terms mul ts h.multiple) h.difference i j ∙ sym (times_terms-shift_y ts h.multiple i j);
  }

  -- x^k·c times a list
  eqb_shift_x : (k u m : ℕ) → eqb (k + u) (k + m) ≡ eqb u m
  eqb_shift_x k u m =
      elim (cases_eq u m) [
        | inl e ↦ eq-eqb (k + u) (k + m) (ap (λ x. k + x) e) ∙ sym (eq-eqb u m e)
        | inr e ↦ ne_eqb (k + u) (k + m) (λ f. e (omega arith)) ∙ sym (ne_eqb u m e)
      ]

  mul-cond : (q : Bool) (c d : ℕ) → mul c (cond q d 0) ≡ cond q (mul c d) 0
  mul-cond true c d = refl
  mul-cond false c d = mul-zero size mul field c

  pub coefficient-times_monomial : (k c : ℕ) (ss : List Term) (m j : ℕ) → coefficient (times_monomial mul k 0 c ss) (k + m) j ≡ mul c (coefficient ss m j)
  coefficient-times_monomial k c [] m j = sym (mul-zero size mul field c)
  coefficient-times_monomial k c (s ∷ ss) m j =
      let R : ℕ = coefficient (times_monomial mul k 0 c ss) (k + m) j in
      let z : 0 + s.j ≡ s.j = omega arith in
      ap (λ q. bit_xor (cond (q && eqb (0 + s.j) j) (mul c s.c) 0) R) (eqb_shift_x k s.i m)
      ∙ ap (λ q. bit_xor (cond (eqb s.i m && eqb q j) (mul c s.c) 0) R) z
      ∙ ap (λ q. bit_xor q R) (sym (mul-cond (eqb s.i m && eqb s.j j) c s.c))
      ∙ ap (λ q. bit_xor (mul c (cond (eqb s.i m && eqb s.j j) s.c 0)) q) (coefficient-times_monomial k c ss m j)
      ∙ sym (field.mul_xor c (cond (eqb s.i m && eqb s.j j) s.c 0) (coefficient ss m j))

  pub coefficient-times_monomial_below : (k c : ℕ) (ss : List Term) (i j : ℕ) → i < k → coefficient (times_monomial mul k 0 c ss) i j ≡ 0
  coefficient-times_monomial_below k c [] i j l = refl
  coefficient-times_monomial_below k c (s ∷ ss) i j l =
      ap (λ q. bit_xor q (coefficient (times_monomial mul k 0 c ss) i j))
      (cond-false (eqb (k + s.i) i && eqb (0 + s.j) j) (mul c s.c) 0 (and_left (eqb (k + s.i) i) (eqb (0 + s.j) j) (ne_eqb (k + s.i) i (λ e. absurd (omega arith)))))
      ∙ coefficient-times_monomial_below k c ss i j l

  -- the sum of the terms times x^k·d
  times_terms-one : (ss : List Term) (t : Term) (m j : ℕ) → t.j ≡ 0 → times_terms mul ss (one t) (t.i + m) j ≡ mul t.c (coefficient ss m j)
  times_terms-one [] t m j z = sym (mul-zero size mul field t.c)
  times_terms-one (s ∷ ss) t m j z =
      let ih : times_terms mul ss (one t) (t.i + m) j ≡ mul t.c (coefficient ss m j) = times_terms-one ss t m j z in
      let test : Bool = leb s.i (t.i + m) && leb s.j j in
      let V : ℕ = mul s.c (one t (t.i + m - s.i) (j - s.j)) in
      let head : cond test V 0 ≡ mul t.c (cond (eqb s.i m && eqb s.j j) s.c 0) =
      elim (cases_Bool (eqb s.i m && eqb s.j j)) [
        | inl e ↦
            let both : (eqb s.i m ≡ true) × (eqb s.j j ≡ true) = and_parts (eqb s.i m) (eqb s.j j) e in
            let ei : s.i ≡ m = eqb-true s.i m both.0 in
            let ej : s.j ≡ j = eqb-true s.j j both.1 in
            cond-true test V 0 (and_from (leb s.i (t.i + m)) (leb s.j j) (le-leb s.i (t.i + m) (omega arith)) (le-leb s.j j (omega arith)))
            ∙ ap (λ q. mul s.c q) (one-same t (t.i + m - s.i) (j - s.j) (omega arith) (omega arith))
            ∙ field.mul_comm s.c t.c
            ∙ ap (λ q. mul t.c q) (sym (cond-true (eqb s.i m && eqb s.j j) s.c 0 e))
        | inr e ↦
            cond_both test V 0 (λ q. q ≡ 0)
            (λ h.
            let both : (leb s.i (t.i + m) ≡ true) × (leb s.j j ≡ true) = and_parts (leb s.i (t.i + m)) (leb s.j j) h in
            let li : s.i ≤ t.i + m = leb-true s.i (t.i + m) both.0 in
            let lj : s.j ≤ j = leb-true s.j j both.1 in
            let off : one t (t.i + m - s.i) (j - s.j) ≡ 0 =
            elim (cases_eq s.i m) [
              | inr d ↦ one-other_x t (t.i + m - s.i) (j - s.j) (λ f. d (omega arith))
              | inl d ↦ one-other_y t (t.i + m - s.i) (j - s.j) (λ f.
                  let same : s.j ≡ j = omega arith in
                  both_ways (eqb s.i m && eqb s.j j) e (and_from (eqb s.i m) (eqb s.j j) (eq-eqb s.i m d) (eq-eqb s.j j same)))
            ] in
            ap (λ q. mul s.c q) off ∙ mul-zero size mul field s.c)
            (λ h. refl)
            ∙ sym (ap (λ q. mul t.c q) (cond-false (eqb s.i m && eqb s.j j) s.c 0 e) ∙ mul-zero size mul field t.c)
      ] in
      ap (λ q. bit_xor q (times_terms mul ss (one t) (t.i + m) j)) head
      ∙ ap (λ q. bit_xor (mul t.c (cond (eqb s.i m && eqb s.j j) s.c 0)) q) ih
      ∙ sym (field.mul_xor t.c (cond (eqb s.i m && eqb s.j j) s.c 0) (coefficient ss m j))

  times_terms-one_below : (ss : List Term) (t : Term) (i j : ℕ) → i < t.i → times_terms mul ss (one t) i j ≡ 0
  times_terms-one_below [] t i j l = refl
  times_terms-one_below (s ∷ ss) t i j l =
      ap (λ q. bit_xor q (times_terms mul ss (one t) i j))
      (cond_both (leb s.i i && leb s.j j) (mul s.c (one t (i - s.i) (j - s.j))) 0 (λ q. q ≡ 0)
      (λ h. ap (λ q. mul s.c q) (one-other_x t (i - s.i) (j - s.j) (λ f. absurd (omega arith))) ∙ mul-zero size mul field s.c) (λ h. refl))
      ∙ times_terms-one_below ss t i j l

  -- the coefficients of a list, apart from those at y^a
  coefficient-others : (a : ℕ) (ss : List Term) (i j : ℕ) → coefficient ss i j ≡ bit_xor (cond (eqb 0 i && eqb a j) (coefficient ss 0 a) 0) (coefficient (others a ss) i j)
  coefficient-others a [] i j = sym (xor_zero_r (cond (eqb 0 i && eqb a j) 0 0) ∙ cond_both (eqb 0 i && eqb a j) 0 0 (λ z. z ≡ 0) (λ e. refl) (λ e. refl))
  coefficient-others a (t ∷ ss) i j =
      let C : ℕ = coefficient ss 0 a in
      let O : ℕ = coefficient (others a ss) i j in
      let B : Bool = eqb 0 i && eqb a j in
      let ih : coefficient ss i j ≡ bit_xor (cond B C 0) O = coefficient-others a ss i j in
      let P : Bool → Type 0 = λ q. bit_xor (one t i j) (coefficient ss i j) ≡ bit_xor (cond B (bit_xor (cond q t.c 0) C) 0) (coefficient (cond (not q) (t ∷ others a ss) (others a ss)) i j) in
      elim (cases_Bool (eqb t.i 0 && eqb t.j a)) [
        | inl e ↦
            let both : (eqb t.i 0 ≡ true) × (eqb t.j a ≡ true) = and_parts (eqb t.i 0) (eqb t.j a) e in
            let at : one t i j ≡ cond B t.c 0 =
            ap (λ q. cond (eqb q i && eqb t.j j) t.c 0) (eqb-true t.i 0 both.0) ∙ ap (λ q. cond (eqb 0 i && eqb q j) t.c 0) (eqb-true t.j a both.1) in
            let h : bit_xor (one t i j) (coefficient ss i j) ≡ bit_xor (cond B (bit_xor t.c C) 0) O =
            ap (λ q. bit_xor q (coefficient ss i j)) at ∙ ap (λ q. bit_xor (cond B t.c 0) q) ih
            ∙ sym (xor_assoc (cond B t.c 0) (cond B C 0) O) ∙ ap (λ q. bit_xor q O) (sym (cond_xor B t.c C)) in
            subst P (sym e) h
        | inr e ↦
            let h : bit_xor (one t i j) (coefficient ss i j) ≡ bit_xor (cond B C 0) (bit_xor (one t i j) O) =
            ap (λ q. bit_xor (one t i j) q) ih ∙ xor_left_comm (one t i j) (cond B C 0) O in
            subst P (sym e) h
      ]
    where
      cond_xor : (q : Bool) (c d : ℕ) → cond q (bit_xor c d) 0 ≡ bit_xor (cond q c 0) (cond q d 0)
      cond_xor true c d = refl
      cond_xor false c d = refl

pub eqb_suc : (u m : ℕ) → eqb (suc u) (suc m) ≡ eqb u m
eqb_suc u m =
    elim (cases_eq u m) [
      | inl e ↦ eq-eqb (suc u) (suc m) (ap suc e) ∙ sym (eq-eqb u m e)
      | inr e ↦ ne_eqb (suc u) (suc m) (λ f. e (omega arith)) ∙ sym (ne_eqb u m e)
    ]

pub shift_y-one : (i j c k l : ℕ) → one (term i (suc j) c) k l ≡ shift_y (one (term i j c)) k l
shift_y-one i j c k zero = one-other_y (term i (suc j) c) k 0 (λ e. absurd (omega arith))
shift_y-one i j c k (suc l) = ap (λ q. cond (eqb i k && q) c 0) (eqb_suc j l)

-- the coefficients of a list of normal terms are those by weights
pub coefficient-by_weights : (size a b n : ℕ) (L : List Term) → IsGcd a b 1 → AreNormal size a b n L → (i j : ℕ) → coefficient L i j ≡ by_weights a b (weight_coefficient a b L) i j
coefficient-by_weights size a b n [] g h i j = sym (cond_both (ltb j a) 0 0 (λ z. z ≡ 0) (λ e. refl) (λ e. refl))
coefficient-by_weights size a b n (t ∷ L) g h i j =
    let ih : coefficient L i j ≡ by_weights a b (weight_coefficient a b L) i j = coefficient-by_weights size a b n L g h.1 i j in
    let W : ℕ = weight_coefficient a b L (a * i + b * j) in
    let D : ℕ = cond (eqb (a * t.i + b * t.j) (a * i + b * j)) t.c 0 in
    let below : t.j < a = h.0.y_below in
    elim (cases_lt j a) [
      | inl l ↦
          let yes : ltb j a ≡ true = lt-ltb j a l in
          let same : one t i j ≡ D =
          elim (cases_Bool (eqb t.i i && eqb t.j j)) [
            | inl e ↦
                let both : (eqb t.i i ≡ true) × (eqb t.j j ≡ true) = and_parts (eqb t.i i) (eqb t.j j) e in
                let w : a * t.i + b * t.j ≡ a * i + b * j = ap (λ q. a * q + b * t.j) (eqb-true t.i i both.0) ∙ ap (λ q. a * i + b * q) (eqb-true t.j j both.1) in
                cond-true (eqb t.i i && eqb t.j j) t.c 0 e ∙ sym (cond-true (eqb (a * t.i + b * t.j) (a * i + b * j)) t.c 0 (eq-eqb (a * t.i + b * t.j) (a * i + b * j) w))
            | inr e ↦
                cond-false (eqb t.i i && eqb t.j j) t.c 0 e
                ∙ sym (cond-false (eqb (a * t.i + b * t.j) (a * i + b * j)) t.c 0 (ne_eqb (a * t.i + b * t.j) (a * i + b * j) (λ w.
                let ij : (t.i ≡ i) × (t.j ≡ j) = exponents_unique a b t.i t.j i j g below l w in
                both_ways (eqb t.i i && eqb t.j j) e (and_from (eqb t.i i) (eqb t.j j) (eq-eqb t.i i ij.0) (eq-eqb t.j j ij.1)))))
          ] in
          ap (λ q. bit_xor q (coefficient L i j)) same
          ∙ ap (λ q. bit_xor D q) (ih ∙ cond-true (ltb j a) W 0 yes)
          ∙ sym (cond-true (ltb j a) (bit_xor D W) 0 yes)
      | inr l ↦
          let not_yes : ltb j a ≡ false = le-ltb j a l in
          ap (λ q. bit_xor q (coefficient L i j)) (one-other_y t i j (λ e. absurd (omega arith)))
          ∙ ih ∙ cond-false (ltb j a) W 0 not_yes ∙ sym (cond-false (ltb j a) (bit_xor D W) 0 not_yes)
    ]

module _ (size : ℕ) (mul : ℕ → ℕ → ℕ) (field : IsField size mul) (a b : ℕ) (ts : List Term) (curve : IsEquation size a b ts) where
  C_below : coefficient ts 0 a < size
  C_below =
      coefficient_below size mul field ts
      (all_weaken (λ t. (0 < t.c) × (t.c < size)) (λ t. t.c < size) (λ t p. p.1) ts (recursion_from_All (λ t. (0 < t.c) × (t.c < size)) ts curve.symbols)) 0 a

  -- y^a times x^k·c is the relation times x^k·c
  step_top_at : (k c : ℕ) → c < size → (m j : ℕ) →
      bit_xor (one (term k a c) (k + m) j) (coefficient (times_monomial mul k 0 c (relation size mul a ts)) (k + m) j)
      ≡ times_terms mul ts (one (term k 0 (mul (inverse_of size mul (coefficient ts 0 a)) c))) (k + m) j
  unfolding relation
  step_top_at k c l m j =
      let C : ℕ = coefficient ts 0 a in
      let u : ℕ = inverse_of size mul C in
      let B : Bool = eqb 0 m && eqb a j in
      let O : ℕ = coefficient (others a ts) m j in
      let zero_k : k ≡ k + 0 = omega arith in
      let zero_m : m ≡ 0 + m = omega arith in
      let at : one (term k a c) (k + m) j ≡ cond B c 0 =
      ap (λ q. cond (eqb q (k + m) && eqb a j) c 0) zero_k ∙ ap (λ q. cond (q && eqb a j) c 0) (eqb_shift_x size mul field k 0 m) in
      let many : coefficient (times_monomial mul k 0 c (times_monomial mul 0 0 u (others a ts))) (k + m) j ≡ mul c (mul u O) =
      coefficient-times_monomial size mul field k c (times_monomial mul 0 0 u (others a ts)) m j
      ∙ ap (λ q. mul c (coefficient (times_monomial mul 0 0 u (others a ts)) q j)) zero_m
      ∙ ap (λ q. mul c q) (coefficient-times_monomial size mul field 0 u (others a ts) m j) in
      let lead : mul (mul u c) C ≡ c =
      field.mul_assoc u c C ∙ mul_left_comm size mul field u c C
      ∙ ap (λ q. mul c q) (field.mul_comm u C ∙ mul-inverse_of size mul field C C_below curve.y_lead) ∙ mul_one size mul field c l in
      let right : times_terms mul ts (one (term k 0 (mul u c))) (k + m) j ≡ bit_xor (cond B c 0) (mul c (mul u O)) =
      times_terms-one size mul field ts (term k 0 (mul u c)) m j refl
      ∙ ap (λ q. mul (mul u c) q) (coefficient-others size mul field a ts m j)
      ∙ field.mul_xor (mul u c) (cond B C 0) O
      ∙ ap (λ q. bit_xor q (mul (mul u c) O)) (mul-cond size mul field B (mul u c) C ∙ ap (λ q. cond B q 0) lead)
      ∙ ap (λ q. bit_xor (cond B c 0) q) (field.mul_assoc u c O ∙ mul_left_comm size mul field u c O) in
      ap (λ q. bit_xor q (coefficient (times_monomial mul k 0 c (times_monomial mul 0 0 u (others a ts))) (k + m) j)) at
      ∙ ap (λ q. bit_xor (cond B c 0) q) many ∙ sym right

  step_top : (k c : ℕ) → c < size → (i j : ℕ) →
      bit_xor (one (term k a c) i j) (coefficient (times_monomial mul k 0 c (relation size mul a ts)) i j)
      ≡ times_terms mul ts (one (term k 0 (mul (inverse_of size mul (coefficient ts 0 a)) c))) i j
  step_top k c l i j =
      elim (cases_lt i k) [
        | inl m ↦
            ap (λ q. bit_xor q (coefficient (times_monomial mul k 0 c (relation size mul a ts)) i j)) (one-other_x (term k a c) i j (λ e. absurd (omega arith)))
            ∙ coefficient-times_monomial_below size mul field k c (relation size mul a ts) i j m
            ∙ sym (times_terms-one_below size mul field ts (term k 0 (mul (inverse_of size mul (coefficient ts 0 a)) c)) i j m)
        | inr m ↦
            let e : k + (i - k) ≡ i = omega arith in
            subst (λ (q : ℕ). bit_xor (one (term k a c) q j) (coefficient (times_monomial mul k 0 c (relation size mul a ts)) q j)
            ≡ times_terms mul ts (one (term k 0 (mul (inverse_of size mul (coefficient ts 0 a)) c))) q j) e
            (step_top_at k c l (i - k) j)
      ]

  same_front : (t : Term) → t.j < a → t.c < size →
      IsSameModulo size mul ts (shift_y (one t)) (coefficient (cond (ltb (suc t.j) a) (record { i = t.i; j = suc t.j; c = t.c } ∷ []) (times_monomial mul t.i 0 t.c (relation size mul a ts))))
  same_front t below symbol =
      let more : List Term = record { i = t.i; j = suc t.j; c = t.c } ∷ [] in
      let many : List Term = times_monomial mul t.i 0 t.c (relation size mul a ts) in
      elim (cases_Bool (ltb (suc t.j) a)) [
        | inl e ↦
            same_change size mul field ts (one (term t.i (suc t.j) t.c)) (one (term t.i (suc t.j) t.c)) (shift_y (one t)) (coefficient (cond (ltb (suc t.j) a) more many))
            (λ i j. sym (shift_y-one t.i t.j t.c i j))
            (λ i j. ap (λ z. coefficient z i j) (cond-true (ltb (suc t.j) a) more many e) ∙ xor_zero_r (one (term t.i (suc t.j) t.c) i j))
            (same_refl size mul field ts (one (term t.i (suc t.j) t.c)))
        | inr e ↦
            let ge : a ≤ suc t.j = ltb-false (suc t.j) a e in
            let top : suc t.j ≡ a = omega arith in
            let u : ℕ = inverse_of size mul (coefficient ts 0 a) in
            record {
              multiple = one (term t.i 0 (mul u t.c));
              is_polynomial = one-polynomial size mul field (term t.i 0 (mul u t.c)) (field.mul_below u t.c);
              difference = λ i j.
                  ap (λ q. bit_xor q (coefficient (cond (ltb (suc t.j) a) more many) i j)) (sym (shift_y-one t.i t.j t.c i j) ∙ ap (λ q. one (term t.i q t.c) i j) top)
                  ∙ ap (λ z. bit_xor (one (term t.i a t.c) i j) (coefficient z i j)) (cond-false (ltb (suc t.j) a) more many e)
                  ∙ step_top t.i t.c symbol i j;
            }
      ]

  shift_y-zero : (i j : ℕ) → shift_y (λ k l. 0) i j ≡ 0
  shift_y-zero i zero = refl
  shift_y-zero i (suc j) = refl

  pub same-times_y : (n : ℕ) (L : List Term) → AreNormal size a b n L → IsSameModulo size mul ts (shift_y (coefficient L)) (coefficient (times_y mul a (relation size mul a ts) L))
  same-times_y n [] h =
      same_change size mul field ts (λ i j. 0) (λ i j. 0) (shift_y (coefficient [])) (coefficient []) shift_y-zero (λ i j. refl) (same_refl size mul field ts (λ i j. 0))
  same-times_y n (t ∷ L) h =
      let front : List Term = cond (ltb (suc t.j) a) (record { i = t.i; j = suc t.j; c = t.c } ∷ []) (times_monomial mul t.i 0 t.c (relation size mul a ts)) in
      let rest : List Term = times_y mul a (relation size mul a ts) L in
      same_change size mul field ts
      (λ i j. bit_xor (shift_y (one t) i j) (shift_y (coefficient L) i j)) (λ i j. bit_xor (coefficient front i j) (coefficient rest i j))
      (shift_y (coefficient (t ∷ L))) (coefficient (front ++ rest))
      (λ i j. sym (shift_y-xor size mul field (one t) (coefficient L) (coefficient (t ∷ L)) (λ k l. refl) i j))
      (λ i j. coefficient-append front rest i j)
      (same_xor size mul field ts (shift_y (one t)) (coefficient front) (shift_y (coefficient L)) (coefficient rest)
      (same_front t h.0.y_below h.0.symbol) (same-times_y n L h.1))

  pub same-normal_form : (i j : ℕ) → IsSameModulo size mul ts (one (term i j 1)) (coefficient (normal_form mul a (relation size mul a ts) i j))
  same-normal_form i zero =
      same_change size mul field ts (one (term i 0 1)) (one (term i 0 1)) (one (term i 0 1)) (coefficient (normal_form mul a (relation size mul a ts) i 0))
      (λ k l. refl) (λ k l. xor_zero_r (one (term i 0 1) k l)) (same_refl size mul field ts (one (term i 0 1)))
  same-normal_form i (suc j) =
      let L : List Term = normal_form mul a (relation size mul a ts) i j in
      same_trans size mul field ts (one (term i (suc j) 1)) (shift_y (coefficient L)) (coefficient (times_y mul a (relation size mul a ts) L))
      (same_change size mul field ts (shift_y (one (term i j 1))) (shift_y (coefficient L)) (one (term i (suc j) 1)) (shift_y (coefficient L))
      (λ k l. shift_y-one i j 1 k l) (λ k l. refl) (same_shift_y size mul field ts (one (term i j 1)) (coefficient L) (same-normal_form i j)))
      (same-times_y (a * i + b * j) L (normal_form-is_normal size mul field a b ts curve i j))

  -- a list of normal terms that is p modulo the equation is the normal form of p
  pub normal_form_from : (p : ℕ → ℕ → ℕ) (n : ℕ) (L : List Term) → AreNormal size a b n L → IsSameModulo size mul ts p (coefficient L) → IsNormalForm size mul a b ts p (weight_coefficient a b L)
  normal_form_from p n L normal h = record {
    symbol = λ w. weight_coefficient_below size mul field a b n L w normal;
    members = λ w m. weight_coefficient-not_member size a b n w L normal
        (λ i j l e. both_ways (is_member a b w) m (subst (λ (z : ℕ). is_member a b z ≡ true) e (is_member-weight a b i j l)));
    bound = n;
    beyond = λ w l. weight_coefficient-beyond size a b n w L normal l;
    same = same_change size mul field ts p (coefficient L) p (by_weights a b (weight_coefficient a b L)) (λ i j. refl)
        (λ i j. sym (coefficient-by_weights size a b n L curve.coprime normal i j)) h;
  }

  -- the normal form of x^i·y^j
  pub normal_form-is : (i j : ℕ) → IsNormalForm size mul a b ts (one (term i j 1)) (weight_coefficient a b (normal_form mul a (relation size mul a ts) i j))
  normal_form-is i j =
      normal_form_from (one (term i j 1)) (a * i + b * j) (normal_form mul a (relation size mul a ts) i j) (normal_form-is_normal size mul field a b ts curve i j) (same-normal_form i j)

module _ (size : ℕ) (mul : ℕ → ℕ → ℕ) (field : IsField size mul) where
  scaled_polynomial : (c : ℕ) (p : ℕ → ℕ → ℕ) → IsPolynomial size p → IsPolynomial size (λ i j. mul c (p i j))
  scaled_polynomial c p h = record {
    symbol = λ i j. field.mul_below c (p i j);
    bound = h.bound;
    x_beyond = λ i j l. ap (λ z. mul c z) (h.x_beyond i j l) ∙ mul-zero size mul field c;
    y_beyond = λ i j l. ap (λ z. mul c z) (h.y_beyond i j l) ∙ mul-zero size mul field c;
  }

  times_terms-scaled : (ss : List Term) (c : ℕ) (p : ℕ → ℕ → ℕ) (i j : ℕ) → times_terms mul ss (λ k l. mul c (p k l)) i j ≡ mul c (times_terms mul ss p i j)
  times_terms-scaled [] c p i j = sym (mul-zero size mul field c)
  times_terms-scaled (s ∷ ss) c p i j =
      let test : Bool = leb s.i i && leb s.j j in
      let v : ℕ = p (i - s.i) (j - s.j) in
      ap (λ z. bit_xor (cond test z 0) (times_terms mul ss (λ k l. mul c (p k l)) i j)) (mul_left_comm size mul field s.c c v)
      ∙ ap (λ z. bit_xor z (times_terms mul ss (λ k l. mul c (p k l)) i j)) (sym (mul-cond size mul field test c (mul s.c v)))
      ∙ ap (λ z. bit_xor (mul c (cond test (mul s.c v) 0)) z) (times_terms-scaled ss c p i j)
      ∙ sym (field.mul_xor c (cond test (mul s.c v) 0) (times_terms mul ss p i j))

  pub same_scaled : (ts : List Term) (c : ℕ) (p q : ℕ → ℕ → ℕ) → IsSameModulo size mul ts p q → IsSameModulo size mul ts (λ i j. mul c (p i j)) (λ i j. mul c (q i j))
  same_scaled ts c p q h = record {
    multiple = λ i j. mul c (h.multiple i j);
    is_polynomial = scaled_polynomial c h.multiple h.is_polynomial;
    difference = λ i j. sym (field.mul_xor c (p i j) (q i j)) ∙ ap (λ z. mul c z) (h.difference i j) ∙ sym (times_terms-scaled ts c h.multiple i j);
  }

  one-scaled : (t : Term) (i j : ℕ) → t.c < size → one t i j ≡ mul t.c (one (term t.i t.j 1) i j)
  one-scaled t i j l = sym (mul-cond size mul field (eqb t.i i && eqb t.j j) t.c 1 ∙ ap (λ z. cond (eqb t.i i && eqb t.j j) z 0) (mul_one size mul field t.c l))

-- a polynomial as a list of terms
row_of : (ℕ → ℕ → ℕ) → ℕ → ℕ → List Term
row_of p i zero = []
row_of p i (suc n) = term i n (p i n) ∷ row_of p i n

pub rows_of : (ℕ → ℕ → ℕ) → ℕ → ℕ → List Term
rows_of p n zero = []
rows_of p n (suc m) = row_of p m n ++ rows_of p n m

row_of-other : (p : ℕ → ℕ → ℕ) (i n k l : ℕ) → i ≢ k → coefficient (row_of p i n) k l ≡ 0
unfolding row_of
row_of-other p i zero k l d = refl
row_of-other p i (suc n) k l d = ap (λ z. bit_xor z (coefficient (row_of p i n) k l)) (one-other_x (term i n (p i n)) k l d) ∙ row_of-other p i n k l d

row_of-beyond : (p : ℕ → ℕ → ℕ) (i n l : ℕ) → n ≤ l → coefficient (row_of p i n) i l ≡ 0
unfolding row_of
row_of-beyond p i zero l h = refl
row_of-beyond p i (suc n) l h =
    let d : n ≢ l = λ e. absurd (omega arith) in
    ap (λ z. bit_xor z (coefficient (row_of p i n) i l)) (one-other_y (term i n (p i n)) i l d) ∙ row_of-beyond p i n l (omega arith)

row_of-within : (p : ℕ → ℕ → ℕ) (i n l : ℕ) → l < n → coefficient (row_of p i n) i l ≡ p i l
unfolding row_of
row_of-within p i zero l h = absurd (omega arith)
row_of-within p i (suc n) l h =
    elim (cases_eq n l) [
      | inl e ↦
          ap (λ z. bit_xor z (coefficient (row_of p i n) i l)) (one-same (term i n (p i n)) i l refl e)
          ∙ ap (λ z. bit_xor (p i n) z) (row_of-beyond p i n l (omega arith)) ∙ xor_zero_r (p i n) ∙ ap (p i) e
      | inr e ↦
          ap (λ z. bit_xor z (coefficient (row_of p i n) i l)) (one-other_y (term i n (p i n)) i l e) ∙ row_of-within p i n l (omega arith)
    ]

rows_of-beyond : (p : ℕ → ℕ → ℕ) (n m k l : ℕ) → m ≤ k → coefficient (rows_of p n m) k l ≡ 0
unfolding rows_of
rows_of-beyond p n zero k l h = refl
rows_of-beyond p n (suc m) k l h =
    coefficient-append (row_of p m n) (rows_of p n m) k l
    ∙ ap (λ z. bit_xor z (coefficient (rows_of p n m) k l)) (row_of-other p m n k l (λ e. absurd (omega arith)))
    ∙ rows_of-beyond p n m k l (omega arith)

rows_of-within : (p : ℕ → ℕ → ℕ) (n m k l : ℕ) → k < m → l < n → coefficient (rows_of p n m) k l ≡ p k l
unfolding rows_of
rows_of-within p n zero k l h g = absurd (omega arith)
rows_of-within p n (suc m) k l h g =
    coefficient-append (row_of p m n) (rows_of p n m) k l
    ∙ elim (cases_eq m k) [
      | inl e ↦
          ap (λ z. bit_xor (coefficient (row_of p m n) z l) (coefficient (rows_of p n m) k l)) (sym e)
          ∙ ap (λ z. bit_xor z (coefficient (rows_of p n m) k l)) (row_of-within p m n l g)
          ∙ ap (λ z. bit_xor (p m l) z) (rows_of-beyond p n m k l (omega arith)) ∙ xor_zero_r (p m l) ∙ ap (λ z. p z l) e
      | inr e ↦
          ap (λ z. bit_xor z (coefficient (rows_of p n m) k l)) (row_of-other p m n k l e) ∙ rows_of-within p n m k l (omega arith) g
    ]

row_of-symbols : (size : ℕ) (p : ℕ → ℕ → ℕ) → ((i j : ℕ) → p i j < size) → (i n : ℕ) → AllByRecursion (λ t. t.c < size) (row_of p i n)
unfolding row_of
row_of-symbols size p h i zero = tt
row_of-symbols size p h i (suc n) = (h i n, row_of-symbols size p h i n)

rows_of-symbols : (size : ℕ) (p : ℕ → ℕ → ℕ) → ((i j : ℕ) → p i j < size) → (n m : ℕ) → AllByRecursion (λ t. t.c < size) (rows_of p n m)
unfolding rows_of
rows_of-symbols size p h n zero = tt
rows_of-symbols size p h n (suc m) = all_append (λ t. t.c < size) (row_of p m n) (rows_of p n m) (row_of-symbols size p h m n) (rows_of-symbols size p h n m)

rows_of-high : (p : ℕ → ℕ → ℕ) (n m k l : ℕ) → n ≤ l → coefficient (rows_of p n m) k l ≡ 0
unfolding rows_of
rows_of-high p n zero k l g = refl
rows_of-high p n (suc m) k l g =
    coefficient-append (row_of p m n) (rows_of p n m) k l
    ∙ ap (λ z. bit_xor z (coefficient (rows_of p n m) k l))
    (elim (cases_eq m k) [
      | inl e ↦ ap (λ z. coefficient (row_of p m n) z l) (sym e) ∙ row_of-beyond p m n l g
      | inr e ↦ row_of-other p m n k l e
    ])
    ∙ rows_of-high p n m k l g

pub coefficient-rows_of : (size : ℕ) (p : ℕ → ℕ → ℕ) (h : IsPolynomial size p) (i j : ℕ) → coefficient (rows_of p h.bound h.bound) i j ≡ p i j
coefficient-rows_of size p h i j =
    elim (cases_lt i h.bound) [
      | inr m ↦ rows_of-beyond p h.bound h.bound i j m ∙ sym (h.x_beyond i j m)
      | inl m ↦ elim (cases_lt j h.bound) [
        | inl l ↦ rows_of-within p h.bound h.bound i j m l
        | inr l ↦ rows_of-high p h.bound h.bound i j l ∙ sym (h.y_beyond i j l)
      ]
    ]

-- the normal form of a list of terms, where r is the relation
pub normal_of : (mul : ℕ → ℕ → ℕ) (a : ℕ) → List Term → List Term → List Term
normal_of mul a r [] = []
normal_of mul a r (s ∷ ss) = times_monomial mul 0 0 s.c (normal_form mul a r s.i s.j) ++ normal_of mul a r ss

pub weight_sum : (a b : ℕ) → List Term → ℕ
weight_sum a b [] = 0
weight_sum a b (s ∷ ss) = a * s.i + b * s.j + weight_sum a b ss

module _ (size : ℕ) (mul : ℕ → ℕ → ℕ) (field : IsField size mul) (a b : ℕ) (ts : List Term) (curve : IsEquation size a b ts) where
  normal_weaken : (m n : ℕ) (L : List Term) → m ≤ n → AreNormal size a b m L → AreNormal size a b n L
  normal_weaken m n L l h =
      all_weaken (λ t. IsNormalTerm size a b m t) (λ t. IsNormalTerm size a b n t)
      (λ t w. let le : a * t.i + b * t.j ≤ m = w.weight in record { y_below = w.y_below; weight = omega arith; symbol = w.symbol }) L h

  pub normal_of-normal : (ss : List Term) → AreNormal size a b (weight_sum a b ss) (normal_of mul a (relation size mul a ts) ss)
  unfolding normal_of weight_sum
  normal_of-normal [] = tt
  normal_of-normal (s ∷ ss) =
      let r : List Term = relation size mul a ts in
      let n : ℕ = a * s.i + b * s.j + weight_sum a b ss in
      all_append (λ t. IsNormalTerm size a b n t) (times_monomial mul 0 0 s.c (normal_form mul a r s.i s.j)) (normal_of mul a r ss)
      (normal_weaken (a * 0 + (a * s.i + b * s.j)) n (times_monomial mul 0 0 s.c (normal_form mul a r s.i s.j)) (omega arith)
      (times_monomial-normal size mul field a b (a * s.i + b * s.j) 0 s.c (normal_form mul a r s.i s.j) (normal_form-is_normal size mul field a b ts curve s.i s.j)))
      (normal_weaken (weight_sum a b ss) n (normal_of mul a r ss) (omega arith) (normal_of-normal ss))

  pub same-normal_of : (ss : List Term) → AllByRecursion (λ t. t.c < size) ss → IsSameModulo size mul ts (coefficient ss) (coefficient (normal_of mul a (relation size mul a ts) ss))
  unfolding normal_of
  same-normal_of [] h = same_refl size mul field ts (coefficient [])
  same-normal_of (s ∷ ss) h =
      let r : List Term = relation size mul a ts in
      let N : List Term = normal_form mul a r s.i s.j in
      let front : List Term = times_monomial mul 0 0 s.c N in
      let rest : List Term = normal_of mul a r ss in
      same_change size mul field ts
      (λ i j. bit_xor (mul s.c (one (term s.i s.j 1) i j)) (coefficient ss i j)) (λ i j. bit_xor (mul s.c (coefficient N i j)) (coefficient rest i j))
      (coefficient (s ∷ ss)) (coefficient (front ++ rest))
      (λ i j. ap (λ z. bit_xor z (coefficient ss i j)) (one-scaled size mul field s i j h.0))
      (λ i j.
      let e : i ≡ 0 + i = omega arith in
      coefficient-append front rest i j
      ∙ ap (λ z. bit_xor z (coefficient rest i j)) (ap (λ q. coefficient front q j) e ∙ coefficient-times_monomial size mul field 0 s.c N i j))
      (same_xor size mul field ts (λ i j. mul s.c (one (term s.i s.j 1) i j)) (λ i j. mul s.c (coefficient N i j)) (coefficient ss) (coefficient rest)
      (same_scaled size mul field ts s.c (one (term s.i s.j 1)) (coefficient N) (same-normal_form size mul field a b ts curve s.i s.j))
      (same-normal_of ss h.1))

  pub record HasNormalForm (p : ℕ → ℕ → ℕ) : Type 0 where
    pub factors : ℕ → ℕ
    pub is_normal_form : IsNormalForm size mul a b ts p factors

  -- each polynomial has a normal form
  pub normal_form-exists : (p : ℕ → ℕ → ℕ) → IsPolynomial size p → HasNormalForm p
  normal_form-exists p h =
      let ss : List Term = rows_of p h.bound h.bound in
      let L : List Term = normal_of mul a (relation size mul a ts) ss in
      record {
        factors = weight_coefficient a b L;
        is_normal_form = normal_form_from size mul field a b ts curve p (weight_sum a b ss) L (normal_of-normal ss)
            (same_change size mul field ts (coefficient ss) (coefficient L) p (coefficient L)
            (λ i j. sym (coefficient-rows_of size p h i j)) (λ i j. refl)
            (same-normal_of ss (rows_of-symbols size p h.symbol h.bound h.bound)));
      }
