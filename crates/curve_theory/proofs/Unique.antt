-- There is one normal form: a multiple of the equation with no term of degree a or more in y is 0
use Rattle.std.proofs.lemmas.Bool.{cases_eq, cases_Bool, and_parts, and_from, eqb-true, lt-ltb, le-ltb, le-leb, cond-true, cond-false, cond_both}
use Rattle.std.specs.List.{AllByRecursion}
use Rattle.std.proofs.lemmas.List.Elements.{recursion_from_All}
use Rattle.std.proofs.Common.{◌≡◌, ℕ, zero, suc, ◌+◌, ◌-◌, ◌*◌, ◌<◌, ◌≤◌, Bool, true, false, cond, eqb, ltb, leb, ◌&&◌, List, [], ◌∷◌, sym, ◌∙◌, ap, refl, inl, inr, arith, bit_xor}
use Rattle.std.specs.Int.Bits.{xor_self}
use Rattle.field_theory.specs.Field.{IsField}
use Rattle.curve_theory.specs.Semigroup.{is_member, x_exponent, y_exponent}
use Rattle.curve_theory.specs.Curve.{Term, coefficient, IsEquation}
use Rattle.curve_theory.specs.Polynomial.{IsPolynomial, times_terms, by_weights, IsNormalForm}
use Rattle.curve_theory.proofs.Semigroup.{y_exponent-lt, weight-exponents}
use Rattle.field_theory.proofs.Sums.{xor_mid, xor_same, mul-zero, zero-mul, xor_mul, xor_below, mul_below-nonzero}
use Rattle.curve_theory.proofs.Values.{coefficient_below}
use Rattle.curve_theory.proofs.Normal.{all_weaken, other_below}

module _ (size : ℕ) (mul : ℕ → ℕ → ℕ) (field : IsField size mul) where
  pub polynomial_xor : (p q : ℕ → ℕ → ℕ) → IsPolynomial size p → IsPolynomial size q → IsPolynomial size (λ i j. bit_xor (p i j) (q i j))
  polynomial_xor p q hp hq = record {
    symbol = λ i j. xor_below size mul field (p i j) (q i j) (hp.symbol i j) (hq.symbol i j);
    bound = hp.bound + hq.bound;
    x_beyond = λ i j l. ap (λ z. bit_xor z (q i j)) (hp.x_beyond i j (omega arith)) ∙ hq.x_beyond i j (omega arith);
    y_beyond = λ i j l. ap (λ z. bit_xor z (q i j)) (hp.y_beyond i j (omega arith)) ∙ hq.y_beyond i j (omega arith);
  }

  mul_cond-xor : (t : Bool) (c p q : ℕ) → cond t (mul c (bit_xor p q)) 0 ≡ bit_xor (cond t (mul c p) 0) (cond t (mul c q) 0)
  mul_cond-xor true c p q = field.mul_xor c p q
  mul_cond-xor false c p q = refl

  pub times_terms-xor : (ts : List Term) (p q : ℕ → ℕ → ℕ) (i j : ℕ) → times_terms mul ts (λ k l. bit_xor (p k l) (q k l)) i j ≡ bit_xor (times_terms mul ts p i j) (times_terms mul ts q i j)
  times_terms-xor [] p q i j = refl
  times_terms-xor (t ∷ ts) p q i j =
      let test : Bool = leb t.i i && leb t.j j in
      ap (λ z. bit_xor z (times_terms mul ts (λ k l. bit_xor (p k l) (q k l)) i j)) (mul_cond-xor test t.c (p (i - t.i) (j - t.j)) (q (i - t.i) (j - t.j)))
      ∙ ap (λ z. bit_xor (bit_xor (cond test (mul t.c (p (i - t.i) (j - t.j))) 0) (cond test (mul t.c (q (i - t.i) (j - t.j))) 0)) z) (times_terms-xor ts p q i j)
      ∙ xor_mid (cond test (mul t.c (p (i - t.i) (j - t.j))) 0) (cond test (mul t.c (q (i - t.i) (j - t.j))) 0) (times_terms mul ts p i j) (times_terms mul ts q i j)

  pub times_terms-zero : (ts : List Term) (p : ℕ → ℕ → ℕ) → ((i j : ℕ) → p i j ≡ 0) → (i j : ℕ) → times_terms mul ts p i j ≡ 0
  times_terms-zero [] p h i j = refl
  times_terms-zero (t ∷ ts) p h i j =
      ap (λ z. bit_xor z (times_terms mul ts p i j))
      (cond_both (leb t.i i && leb t.j j) (mul t.c (p (i - t.i) (j - t.j))) 0 (λ z. z ≡ 0) (λ e. ap (λ z. mul t.c z) (h (i - t.i) (j - t.j)) ∙ mul-zero size mul field t.c) (λ e. refl))
      ∙ times_terms-zero ts p h i j

module _ (size : ℕ) (mul : ℕ → ℕ → ℕ) (field : IsField size mul) (a b : ℕ) (ts : List Term) (curve : IsEquation size a b ts) where
  -- where p has degree k in y, the coefficients at y^(k+a) are those of p at y^k times the coefficient of y^a
  times_terms-top : (ss : List Term) → AllByRecursion (λ t. a * t.i + b * t.j ≤ a * b) ss → (p : ℕ → ℕ → ℕ) (k : ℕ) →
      ((i j : ℕ) → suc k ≤ j → p i j ≡ 0) → (i : ℕ) → times_terms mul ss p i (k + a) ≡ mul (coefficient ss 0 a) (p i k)
  times_terms-top [] h p k above i = sym (zero-mul size mul field (p i k))
  times_terms-top (t ∷ ss) h p k above i =
      let ih : times_terms mul ss p i (k + a) ≡ mul (coefficient ss 0 a) (p i k) = times_terms-top ss h.1 p k above i in
      let X : ℕ = cond (leb t.i i && leb t.j (k + a)) (mul t.c (p (i - t.i) (k + a - t.j))) 0 in
      let head : X ≡ mul (cond (eqb t.i 0 && eqb t.j a) t.c 0) (p i k) =
      elim (cases_Bool (eqb t.i 0 && eqb t.j a)) [
        | inl e ↦
            let both : (eqb t.i 0 ≡ true) × (eqb t.j a ≡ true) = and_parts (eqb t.i 0) (eqb t.j a) e in
            let ei : t.i ≡ 0 = eqb-true t.i 0 both.0 in
            let ej : t.j ≡ a = eqb-true t.j a both.1 in
            let di : i - t.i ≡ i = omega arith in
            let dj : k + a - t.j ≡ k = omega arith in
            cond-true (leb t.i i && leb t.j (k + a)) (mul t.c (p (i - t.i) (k + a - t.j))) 0
            (and_from (leb t.i i) (leb t.j (k + a)) (le-leb t.i i (omega arith)) (le-leb t.j (k + a) (omega arith)))
            ∙ ap (λ z. mul t.c (p z (k + a - t.j))) di ∙ ap (λ z. mul t.c (p i z)) dj
            ∙ ap (λ z. mul z (p i k)) (sym (cond-true (eqb t.i 0 && eqb t.j a) t.c 0 e))
        | inr e ↦
            let below : t.j < a = other_below a b t.i t.j curve.a_above curve.b_above h.0 e in
            cond_both (leb t.i i && leb t.j (k + a)) (mul t.c (p (i - t.i) (k + a - t.j))) 0 (λ z. z ≡ 0)
            (λ q. ap (λ z. mul t.c z) (above (i - t.i) (k + a - t.j) (omega arith)) ∙ mul-zero size mul field t.c) (λ q. refl)
            ∙ sym (ap (λ z. mul z (p i k)) (cond-false (eqb t.i 0 && eqb t.j a) t.c 0 e) ∙ zero-mul size mul field (p i k))
      ] in
      ap (λ z. bit_xor z (times_terms mul ss p i (k + a))) head
      ∙ ap (λ z. bit_xor (mul (cond (eqb t.i 0 && eqb t.j a) t.c 0) (p i k)) z) ih
      ∙ sym (xor_mul size mul field (cond (eqb t.i 0 && eqb t.j a) t.c 0) (coefficient ss 0 a) (p i k))

  multiple_zero_from : (p : ℕ → ℕ → ℕ) → ((i j : ℕ) → p i j < size) → ((i j : ℕ) → a ≤ j → times_terms mul ts p i j ≡ 0) →
      (k : ℕ) → ((i j : ℕ) → k ≤ j → p i j ≡ 0) → (i j : ℕ) → p i j ≡ 0
  multiple_zero_from p symbol low zero above i j = above i j (omega arith)
  multiple_zero_from p symbol low (suc k) above i j =
      let weights : AllByRecursion (λ t. a * t.i + b * t.j ≤ a * b) ts = recursion_from_All (λ t. a * t.i + b * t.j ≤ a * b) ts curve.weights in
      let symbols : AllByRecursion (λ t. t.c < size) ts =
      all_weaken (λ t. (0 < t.c) × (t.c < size)) (λ t. t.c < size) (λ t p. p.1) ts (recursion_from_All (λ t. (0 < t.c) × (t.c < size)) ts curve.symbols) in
      let at_k : (m : ℕ) → p m k ≡ 0 = λ m.
      elim (cases_eq (p m k) 0) [
        | inl e ↦ e
        | inr e ↦ absurd (mul_below-nonzero size mul field (coefficient ts 0 a) (p m k) (coefficient_below size mul field ts symbols 0 a) (symbol m k) curve.y_lead e
            (sym (times_terms-top ts weights p k above m) ∙ low m (k + a) (omega arith)))
      ] in
      multiple_zero_from p symbol low k
      (λ m l h. elim (cases_eq l k) [
        | inl e ↦ ap (p m) e ∙ at_k m
        | inr e ↦ above m l (omega arith)
      ]) i j

  -- a multiple of the equation with no term of degree a or more in y is the multiple by 0
  pub multiple_zero : (p : ℕ → ℕ → ℕ) → IsPolynomial size p → ((i j : ℕ) → a ≤ j → times_terms mul ts p i j ≡ 0) → (i j : ℕ) → p i j ≡ 0
  multiple_zero p h low = multiple_zero_from p h.symbol low h.bound h.y_beyond

  xor_join : (p c d : ℕ) → bit_xor (bit_xor p c) (bit_xor p d) ≡ bit_xor c d
  xor_join p c d = xor_mid p c p d ∙ ap (λ z. bit_xor z (bit_xor c d)) (xor_self p)

  pub normal_form-unique : (p : ℕ → ℕ → ℕ) (c d : ℕ → ℕ) → IsNormalForm size mul a b ts p c → IsNormalForm size mul a b ts p d → (w : ℕ) → c w ≡ d w
  normal_form-unique p c d hc hd w =
      let m : ℕ → ℕ → ℕ = λ i j. bit_xor (hc.same.multiple i j) (hd.same.multiple i j) in
      let poly : IsPolynomial size m = polynomial_xor size mul field hc.same.multiple hd.same.multiple hc.same.is_polynomial hd.same.is_polynomial in
      let diff : (i j : ℕ) → bit_xor (by_weights a b c i j) (by_weights a b d i j) ≡ times_terms mul ts m i j = λ i j.
      sym (xor_join (p i j) (by_weights a b c i j) (by_weights a b d i j))
      ∙ ap (λ z. bit_xor z (bit_xor (p i j) (by_weights a b d i j))) (hc.same.difference i j)
      ∙ ap (λ z. bit_xor (times_terms mul ts hc.same.multiple i j) z) (hd.same.difference i j)
      ∙ sym (times_terms-xor size mul field ts hc.same.multiple hd.same.multiple i j) in
      let zero_m : (i j : ℕ) → m i j ≡ 0 =
      multiple_zero m poly (λ i j l. sym (diff i j)
      ∙ ap (λ z. bit_xor z (by_weights a b d i j)) (cond-false (ltb j a) (c (a * i + b * j)) 0 (le-ltb j a l))
      ∙ cond-false (ltb j a) (d (a * i + b * j)) 0 (le-ltb j a l)) in
      elim (cases_Bool (is_member a b w)) [
        | inl e ↦
            let i : ℕ = x_exponent a b w in
            let j : ℕ = y_exponent a b w in
            let lt : ltb j a ≡ true = lt-ltb j a (y_exponent-lt a b w e) in
            let at : a * i + b * j ≡ w = weight-exponents a b w e in
            let same : by_weights a b c i j ≡ by_weights a b d i j =
            xor_same (by_weights a b c i j) (by_weights a b d i j) (diff i j ∙ times_terms-zero size mul field ts m zero_m i j) in
            ap c (sym at) ∙ sym (cond-true (ltb j a) (c (a * i + b * j)) 0 lt) ∙ same ∙ cond-true (ltb j a) (d (a * i + b * j)) 0 lt ∙ ap d at
        | inr e ↦ hc.members w e ∙ sym (hd.members w e)
      ]
