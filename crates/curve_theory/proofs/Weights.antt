-- The steps of a normal form by weights
use Rattle.std.proofs.lemmas.Bool.{cases_eq, cases_lt, cases_Bool, and_left, le-leb, lt-leb, cond-true, cond-false, cond_both}
use Rattle.std.specs.List.{AllByRecursion}
use Rattle.std.proofs.lemmas.List.{take_more, map-append}
use Rattle.std.proofs.Common.{lt-ltb, le-ltb, length, get_or, set, take, get_or-set_same, get_or-set_other, ◌≡◌, ℕ, zero, suc, ◌+◌, ◌-◌, ◌*◌, ◌<◌, ◌≤◌, Bool, true, false, cond, eqb, ltb, leb, ◌&&◌, List, [], ◌∷◌, ◌++◌, sym, ◌∙◌, ap, subst, refl, inl, inr, arith, bit_xor}
use Rattle.std.specs.Int.Bits.{xor_zero_r}
use Rattle.std.specs.Int.{IsGcd}
use Rattle.field_theory.specs.Field.{IsField}
use Rattle.field_theory.specs.Sums.{xor_sum}
use Rattle.curve_theory.specs.Semigroup.{is_member, x_exponent, y_exponent}
use Rattle.curve_theory.specs.Curve.{Term, coefficient, IsEquation}
use Rattle.curve_theory.specs.Normal.{weight_coefficient, times_monomial, relation, times_y}
use Rattle.curve_theory.specs.Polynomial.{IsPolynomial, one, shift_x, shift_y, times_terms, IsSameModulo, by_weights, IsNormalForm}
use Rattle.curve_theory.specs.Weights.{one_by_weights, times_x_by_weights, y_times_monomial, y_times_function, times_y_by_weights}
use Rattle.curve_theory.proofs.Semigroup.{exponents-weight, weight-exponents, y_exponent-lt}
use Rattle.field_theory.proofs.Sums.{sum-same, sum-xor, sum-zero, sum-only, mul-zero, zero-mul, xor_mul, mul_left_comm, zero_below, mul_one}
use Rattle.curve_theory.proofs.Normal.{IsNormalTerm, AreNormal, all_append, all_weaken, cond_ne, cond_eq, weight_coefficient-append, weight_coefficient-times_monomial, weight_coefficient_below, times_monomial-normal, times_y-normal}
use Rattle.curve_theory.proofs.Product.{relation-normal}
use Rattle.curve_theory.proofs.Exists.{term, coefficient-by_weights, same_change, same_trans, same_shift_y, same-times_y, normal_form_from, normal_form-is, coefficient-times_monomial, coefficient-times_monomial_below}
use Rattle.curve_theory.proofs.Values.{coefficient_below}

-- a write of one more summand
pub get_or-set_xor : (xs : List ℕ) (k v w : ℕ) → k < length xs → get_or (set xs k (bit_xor (get_or xs k 0) v)) w 0 ≡ bit_xor (get_or xs w 0) (cond (eqb k w) v 0)
get_or-set_xor xs k v w l =
    elim (cases_eq k w) [
      | inl e ↦
          ap (λ z. get_or (set xs k (bit_xor (get_or xs k 0) v)) z 0) (sym e)
          ∙ get_or-set_same xs k (bit_xor (get_or xs k 0) v) 0 l
          ∙ ap (λ z. bit_xor (get_or xs z 0) v) e ∙ ap (λ z. bit_xor (get_or xs w 0) z) (sym (cond_eq k w v e))
      | inr e ↦
          get_or-set_other xs k w (bit_xor (get_or xs k 0) v) 0 (λ f. e (sym f))
          ∙ sym (xor_zero_r (get_or xs w 0)) ∙ ap (λ z. bit_xor (get_or xs w 0) z) (sym (cond_ne k w v e))
    ]

-- the terms of c, by weights, below n
list_of : (a b : ℕ) → (ℕ → ℕ) → ℕ → List Term
list_of a b c zero = []
list_of a b c (suc n) = cond (is_member a b n) (term (x_exponent a b n) (y_exponent a b n) (c n) ∷ []) [] ++ list_of a b c n

front-normal : (size a b : ℕ) (c : ℕ → ℕ) → ((w : ℕ) → c w < size) → (n m : ℕ) → n ≤ m →
    AreNormal size a b m (cond (is_member a b n) (term (x_exponent a b n) (y_exponent a b n) (c n) ∷ []) [])
front-normal size a b c symbol n m l =
    elim (cases_Bool (is_member a b n)) [
      | inl e ↦
          let w : a * x_exponent a b n + b * y_exponent a b n ≡ n = weight-exponents a b n e in
          subst (λ (z : List Term). AreNormal size a b m z) (sym (cond-true (is_member a b n) (term (x_exponent a b n) (y_exponent a b n) (c n) ∷ []) [] e))
          (record { y_below = y_exponent-lt a b n e; weight = omega arith; symbol = symbol n }, tt)
      | inr e ↦
          subst (λ (z : List Term). AreNormal size a b m z) (sym (cond-false (is_member a b n) (term (x_exponent a b n) (y_exponent a b n) (c n) ∷ []) [] e)) tt
    ]

list_of-normal : (size a b : ℕ) (c : ℕ → ℕ) → ((w : ℕ) → c w < size) → (n m : ℕ) → n ≤ suc m → AreNormal size a b m (list_of a b c n)
unfolding list_of
list_of-normal size a b c symbol zero m l = tt
list_of-normal size a b c symbol (suc n) m l =
    all_append (λ t. IsNormalTerm size a b m t) (cond (is_member a b n) (term (x_exponent a b n) (y_exponent a b n) (c n) ∷ []) []) (list_of a b c n)
    (front-normal size a b c symbol n m (omega arith)) (list_of-normal size a b c symbol n m (omega arith))

front-coefficient : (a b : ℕ) (c : ℕ → ℕ) (n w : ℕ) → (is_member a b n ≡ false → c n ≡ 0) →
    weight_coefficient a b (cond (is_member a b n) (term (x_exponent a b n) (y_exponent a b n) (c n) ∷ []) []) w ≡ cond (eqb n w) (c n) 0
front-coefficient a b c n w h =
    elim (cases_Bool (is_member a b n)) [
      | inl e ↦
          ap (λ z. weight_coefficient a b z w) (cond-true (is_member a b n) (term (x_exponent a b n) (y_exponent a b n) (c n) ∷ []) [] e)
          ∙ xor_zero_r (cond (eqb (a * x_exponent a b n + b * y_exponent a b n) w) (c n) 0)
          ∙ ap (λ z. cond (eqb z w) (c n) 0) (weight-exponents a b n e)
      | inr e ↦
          ap (λ z. weight_coefficient a b z w) (cond-false (is_member a b n) (term (x_exponent a b n) (y_exponent a b n) (c n) ∷ []) [] e)
          ∙ sym (ap (λ z. cond (eqb n w) z 0) (h e) ∙ cond_both (eqb n w) 0 0 (λ z. z ≡ 0) (λ q. refl) (λ q. refl))
    ]

list_of-beyond : (a b : ℕ) (c : ℕ → ℕ) → ((w : ℕ) → is_member a b w ≡ false → c w ≡ 0) → (n w : ℕ) → n ≤ w → weight_coefficient a b (list_of a b c n) w ≡ 0
unfolding list_of
list_of-beyond a b c h zero w l = refl
list_of-beyond a b c h (suc n) w l =
    let front : List Term = cond (is_member a b n) (term (x_exponent a b n) (y_exponent a b n) (c n) ∷ []) [] in
    weight_coefficient-append a b front (list_of a b c n) w
    ∙ ap (λ z. bit_xor z (weight_coefficient a b (list_of a b c n) w)) (front-coefficient a b c n w (h n) ∙ cond_ne n w (c n) (λ e. absurd (omega arith)))
    ∙ list_of-beyond a b c h n w (omega arith)

list_of-within : (a b : ℕ) (c : ℕ → ℕ) → ((w : ℕ) → is_member a b w ≡ false → c w ≡ 0) → (n w : ℕ) → w < n → weight_coefficient a b (list_of a b c n) w ≡ c w
unfolding list_of
list_of-within a b c h zero w l = absurd (omega arith)
list_of-within a b c h (suc n) w l =
    let front : List Term = cond (is_member a b n) (term (x_exponent a b n) (y_exponent a b n) (c n) ∷ []) [] in
    weight_coefficient-append a b front (list_of a b c n) w
    ∙ ap (λ z. bit_xor z (weight_coefficient a b (list_of a b c n) w)) (front-coefficient a b c n w (h n))
    ∙ elim (cases_eq n w) [
      | inl e ↦
          ap (λ z. bit_xor z (weight_coefficient a b (list_of a b c n) w)) (cond_eq n w (c n) e)
          ∙ ap (λ z. bit_xor (c n) z) (list_of-beyond a b c h n w (omega arith)) ∙ xor_zero_r (c n) ∙ ap c e
      | inr e ↦
          ap (λ z. bit_xor z (weight_coefficient a b (list_of a b c n) w)) (cond_ne n w (c n) e) ∙ list_of-within a b c h n w (omega arith)
    ]

module _ (size : ℕ) (mul : ℕ → ℕ → ℕ) (field : IsField size mul) where
  mul-cond : (q : Bool) (c d : ℕ) → mul c (cond q d 0) ≡ cond q (mul c d) 0
  mul-cond true c d = refl
  mul-cond false c d = mul-zero size mul field c

  mul-one_mul : (c d : ℕ) → mul c (mul 1 d) ≡ mul c d
  mul-one_mul c d = mul_left_comm size mul field c 1 d ∙ field.one_mul (mul c d) (field.mul_below c d)

  weight_coefficient-factor : (a b i c : ℕ) (r : List Term) (w : ℕ) →
      weight_coefficient a b (times_monomial mul i 0 c r) w ≡ mul c (weight_coefficient a b (times_monomial mul i 0 1 r) w)
  weight_coefficient-factor a b i c [] w = sym (mul-zero size mul field c)
  weight_coefficient-factor a b i c (t ∷ r) w =
      let test : Bool = eqb (a * (i + t.i) + b * (0 + t.j)) w in
      ap (λ z. bit_xor (cond test z 0) (weight_coefficient a b (times_monomial mul i 0 c r) w)) (sym (mul-one_mul c t.c))
      ∙ ap (λ z. bit_xor z (weight_coefficient a b (times_monomial mul i 0 c r) w)) (sym (mul-cond test c (mul 1 t.c)))
      ∙ ap (λ z. bit_xor (mul c (cond test (mul 1 t.c) 0)) z) (weight_coefficient-factor a b i c r w)
      ∙ sym (field.mul_xor c (cond test (mul 1 t.c) 0) (weight_coefficient a b (times_monomial mul i 0 1 r) w))

  times_y-factor : (a b : ℕ) (r : List Term) (i j c w : ℕ) → c < size →
      weight_coefficient a b (cond (ltb (suc j) a) (term i (suc j) c ∷ []) (times_monomial mul i 0 c r)) w ≡ mul c (weight_coefficient a b (times_y mul a r (term i j 1 ∷ [])) w)
  times_y-factor a b r i j c w l =
      let one_front : List Term = cond (ltb (suc j) a) (term i (suc j) 1 ∷ []) (times_monomial mul i 0 1 r) in
      let lone : weight_coefficient a b (one_front ++ []) w ≡ weight_coefficient a b one_front w =
      weight_coefficient-append a b one_front [] w ∙ xor_zero_r (weight_coefficient a b one_front w) in
      elim (cases_Bool (ltb (suc j) a)) [
        | inl e ↦
            let test : Bool = eqb (a * i + b * suc j) w in
            ap (λ z. weight_coefficient a b z w) (cond-true (ltb (suc j) a) (term i (suc j) c ∷ []) (times_monomial mul i 0 c r) e)
            ∙ xor_zero_r (cond test c 0)
            ∙ ap (λ z. cond test z 0) (sym (mul_one size mul field c l)) ∙ sym (mul-cond test c 1)
            ∙ ap (λ z. mul c z) (sym (lone ∙ ap (λ z. weight_coefficient a b z w) (cond-true (ltb (suc j) a) (term i (suc j) 1 ∷ []) (times_monomial mul i 0 1 r) e) ∙ xor_zero_r (cond test 1 0)))
        | inr e ↦
            ap (λ z. weight_coefficient a b z w) (cond-false (ltb (suc j) a) (term i (suc j) c ∷ []) (times_monomial mul i 0 c r) e)
            ∙ weight_coefficient-factor a b i c r w
            ∙ ap (λ z. mul c z) (sym (lone ∙ ap (λ z. weight_coefficient a b z w) (cond-false (ltb (suc j) a) (term i (suc j) 1 ∷ []) (times_monomial mul i 0 1 r) e)))
      ]

  -- the weights of y times a list
  pub weight_coefficient-times_y : (a b n : ℕ) (r L : List Term) (w : ℕ) → IsGcd a b 1 → AreNormal size a b n L →
      weight_coefficient a b (times_y mul a r L) w ≡ times_y_by_weights mul a b r n (weight_coefficient a b L) w
  weight_coefficient-times_y a b n r [] w g h =
      sym (sum-zero (suc n) (λ v. mul 0 (weight_coefficient a b (y_times_function mul a b r v) w)) (λ v l. zero-mul size mul field (weight_coefficient a b (y_times_function mul a b r v) w)))
  weight_coefficient-times_y a b n r (t ∷ L) w g h =
      let u : ℕ = a * t.i + b * t.j in
      let Y : ℕ → ℕ = λ v. weight_coefficient a b (y_times_function mul a b r v) w in
      let D : ℕ → ℕ = λ v. mul (cond (eqb u v) t.c 0) (Y v) in
      let R : ℕ → ℕ = λ v. mul (weight_coefficient a b L v) (Y v) in
      let front : List Term = cond (ltb (suc t.j) a) (term t.i (suc t.j) t.c ∷ []) (times_monomial mul t.i 0 t.c r) in
      let both : (x_exponent a b u ≡ t.i) × (y_exponent a b u ≡ t.j) = exponents-weight a b t.i t.j g h.0.y_below in
      let at : Y u ≡ weight_coefficient a b (times_y mul a r (term t.i t.j 1 ∷ [])) w =
      ap (λ q. weight_coefficient a b (times_y mul a r (term q (y_exponent a b u) 1 ∷ [])) w) both.0
      ∙ ap (λ q. weight_coefficient a b (times_y mul a r (term t.i q 1 ∷ [])) w) both.1 in
      let le : u ≤ n = h.0.weight in
      let only : xor_sum (suc n) D ≡ D u =
      sum-only (suc n) D u (omega arith) (λ v l d. ap (λ z. mul z (Y v)) (cond_ne u v t.c (λ e. d (sym e))) ∙ zero-mul size mul field (Y v)) in
      let first : weight_coefficient a b front w ≡ xor_sum (suc n) D =
      times_y-factor a b r t.i t.j t.c w h.0.symbol ∙ ap (λ z. mul t.c z) (sym at) ∙ ap (λ z. mul z (Y u)) (sym (cond_eq u u t.c refl)) ∙ sym only in
      weight_coefficient-append a b front (times_y mul a r L) w
      ∙ ap (λ z. bit_xor z (weight_coefficient a b (times_y mul a r L) w)) first
      ∙ ap (λ z. bit_xor (xor_sum (suc n) D) z) (weight_coefficient-times_y a b n r L w g h.1)
      ∙ sym (sum-xor (suc n) D R)
      ∙ sum-same (suc n) (λ v. bit_xor (D v) (R v)) (λ v. mul (bit_xor (cond (eqb u v) t.c 0) (weight_coefficient a b L v)) (Y v))
      (λ v l. sym (xor_mul size mul field (cond (eqb u v) t.c 0) (weight_coefficient a b L v) (Y v)))

  -- one term more of the relation, as a loop over it has it
  pub weight_coefficient-take_more : (a b i c : ℕ) (r : List Term) (k : ℕ) (d : Term) (w : ℕ) → k < length r →
      mul c (weight_coefficient a b (times_monomial mul i 0 1 (take (k + 1) r)) w)
      ≡ bit_xor (mul c (weight_coefficient a b (times_monomial mul i 0 1 (take k r)) w)) (cond (eqb (a * (i + (get_or r k d).i) + b * (get_or r k d).j) w) (mul c (get_or r k d).c) 0)
  weight_coefficient-take_more a b i c r k d w l =
      let t : Term = get_or r k d in
      let front : List Term = times_monomial mul i 0 1 (take k r) in
      let W : ℕ = weight_coefficient a b front w in
      let z : 0 + t.j ≡ t.j = omega arith in
      ap (λ (q : List Term). mul c (weight_coefficient a b (times_monomial mul i 0 1 q) w)) (take_more r k d l)
      ∙ ap (λ (q : List Term). mul c (weight_coefficient a b q w)) (map-append (λ (s : Term). let m : Term = record { i = i + s.i; j = 0 + s.j; c = mul 1 s.c } in m) (take k r) (t ∷ []))
      ∙ ap (λ q. mul c q) (weight_coefficient-append a b front (times_monomial mul i 0 1 (t ∷ [])) w)
      ∙ ap (λ q. mul c (bit_xor W q)) (xor_zero_r (cond (eqb (a * (i + t.i) + b * (0 + t.j)) w) (mul 1 t.c) 0))
      ∙ ap (λ q. mul c (bit_xor W (cond (eqb (a * (i + t.i) + b * q) w) (mul 1 t.c) 0))) z
      ∙ field.mul_xor c W (cond (eqb (a * (i + t.i) + b * t.j) w) (mul 1 t.c) 0)
      ∙ ap (λ q. bit_xor (mul c W) q)
      (mul-cond (eqb (a * (i + t.i) + b * t.j) w) c (mul 1 t.c) ∙ ap (λ q. cond (eqb (a * (i + t.i) + b * t.j) w) q 0) (mul-one_mul c t.c))

  -- y times a monomial, in the two cases
  pub y_times_monomial-more : (a b i j c w : ℕ) (r : List Term) → c < size → suc j < a →
      mul c (weight_coefficient a b (y_times_monomial mul a r i j) w) ≡ cond (eqb (a * i + b * suc j) w) c 0
  y_times_monomial-more a b i j c w r l h =
      sym (times_y-factor a b r i j c w l)
      ∙ ap (λ z. weight_coefficient a b z w) (cond-true (ltb (suc j) a) (term i (suc j) c ∷ []) (times_monomial mul i 0 c r) (lt-ltb (suc j) a h))
      ∙ xor_zero_r (cond (eqb (a * i + b * suc j) w) c 0)

  pub y_times_monomial-top : (a b i j w : ℕ) (r : List Term) → a ≤ suc j →
      weight_coefficient a b (y_times_monomial mul a r i j) w ≡ weight_coefficient a b (times_monomial mul i 0 1 r) w
  y_times_monomial-top a b i j w r h =
      let front : List Term = cond (ltb (suc j) a) (term i (suc j) 1 ∷ []) (times_monomial mul i 0 1 r) in
      weight_coefficient-append a b front [] w ∙ xor_zero_r (weight_coefficient a b front w)
      ∙ ap (λ z. weight_coefficient a b z w) (cond-false (ltb (suc j) a) (term i (suc j) 1 ∷ []) (times_monomial mul i 0 1 r) (le-ltb (suc j) a h))

  -- x times a multiple
  shift_x_test : (si sj sc : ℕ) (p : ℕ → ℕ → ℕ) (i j : ℕ) →
      cond (leb si (suc i) && leb sj j) (mul sc (shift_x p (suc i - si) (j - sj))) 0 ≡ cond (leb si i && leb sj j) (mul sc (p (i - si) (j - sj))) 0
  shift_x_test si sj sc p i j =
      elim (cases_lt i si) [
        | inl m ↦
            let z : suc i - si ≡ 0 = omega arith in
            cond_both (leb si (suc i) && leb sj j) (mul sc (shift_x p (suc i - si) (j - sj))) 0 (λ q. q ≡ 0)
            (λ e. ap (λ q. mul sc (shift_x p q (j - sj))) z ∙ mul-zero size mul field sc) (λ e. refl)
            ∙ sym (cond-false (leb si i && leb sj j) (mul sc (p (i - si) (j - sj))) 0 (and_left (leb si i) (leb sj j) (lt-leb si i m)))
        | inr m ↦
            let s : suc i - si ≡ suc (i - si) = omega arith in
            ap (λ q. cond (q && leb sj j) (mul sc (shift_x p (suc i - si) (j - sj))) 0) (le-leb si (suc i) (omega arith) ∙ sym (le-leb si i m))
            ∙ ap (λ q. cond (leb si i && leb sj j) (mul sc (shift_x p q (j - sj))) 0) s
      ]

  times_terms-shift_x : (ss : List Term) (p : ℕ → ℕ → ℕ) (i j : ℕ) → times_terms mul ss (shift_x p) i j ≡ shift_x (times_terms mul ss p) i j
  times_terms-shift_x [] p zero j = refl
  times_terms-shift_x [] p (suc i) j = refl
  times_terms-shift_x (s ∷ ss) p zero j =
      let z : 0 - s.i ≡ 0 = omega arith in
      ap (λ q. bit_xor q (times_terms mul ss (shift_x p) 0 j))
      (cond_both (leb s.i 0 && leb s.j j) (mul s.c (shift_x p (0 - s.i) (j - s.j))) 0 (λ q. q ≡ 0)
      (λ e. ap (λ q. mul s.c (shift_x p q (j - s.j))) z ∙ mul-zero size mul field s.c) (λ e. refl))
      ∙ times_terms-shift_x ss p zero j
  times_terms-shift_x (s ∷ ss) p (suc i) j =
      ap (λ z. bit_xor z (times_terms mul ss (shift_x p) (suc i) j)) (shift_x_test s.i s.j s.c p i j)
      ∙ ap (λ z. bit_xor (cond (leb s.i i && leb s.j j) (mul s.c (p (i - s.i) (j - s.j))) 0) z) (times_terms-shift_x ss p (suc i) j)

  shift_x-xor : (p q r : ℕ → ℕ → ℕ) → ((i j : ℕ) → bit_xor (p i j) (q i j) ≡ r i j) → (i j : ℕ) → bit_xor (shift_x p i j) (shift_x q i j) ≡ shift_x r i j
  shift_x-xor p q r h zero j = refl
  shift_x-xor p q r h (suc i) j = h i j

  shift_x-symbol : (p : ℕ → ℕ → ℕ) → IsPolynomial size p → (i j : ℕ) → shift_x p i j < size
  shift_x-symbol p h zero j = zero_below size mul field
  shift_x-symbol p h (suc i) j = h.symbol i j

  shift_x-x_beyond : (p : ℕ → ℕ → ℕ) (n : ℕ) → ((i j : ℕ) → n ≤ i → p i j ≡ 0) → (i j : ℕ) → suc n ≤ i → shift_x p i j ≡ 0
  shift_x-x_beyond p n h zero j l = refl
  shift_x-x_beyond p n h (suc i) j l = h i j (omega arith)

  shift_x-y_beyond : (p : ℕ → ℕ → ℕ) (n : ℕ) → ((i j : ℕ) → n ≤ j → p i j ≡ 0) → (i j : ℕ) → suc n ≤ j → shift_x p i j ≡ 0
  shift_x-y_beyond p n h zero j l = refl
  shift_x-y_beyond p n h (suc i) j l = h i j (omega arith)

  pub same_shift_x : (ts : List Term) (p q : ℕ → ℕ → ℕ) → IsSameModulo size mul ts p q → IsSameModulo size mul ts (shift_x p) (shift_x q)
  same_shift_x ts p q h = record {
    multiple = shift_x h.multiple;
    is_polynomial = record {
      symbol = shift_x-symbol h.multiple h.is_polynomial;
      bound = suc h.is_polynomial.bound;
      x_beyond = shift_x-x_beyond h.multiple h.is_polynomial.bound h.is_polynomial.x_beyond;
      y_beyond = shift_x-y_beyond h.multiple h.is_polynomial.bound h.is_polynomial.y_beyond;
    };
    difference = λ i j. shift_x-xor p q (times_terms mul ts h.multiple) h.difference i j ∙ sym (times_terms-shift_x ts h.multiple i j);
  }

  coefficient-times_x : (L : List Term) → AllByRecursion (λ t. t.c < size) L → (i j : ℕ) → coefficient (times_monomial mul 1 0 1 L) i j ≡ shift_x (coefficient L) i j
  coefficient-times_x L h zero j = coefficient-times_monomial_below size mul field 1 1 L 0 j (omega arith)
  coefficient-times_x L h (suc i) j =
      let e : suc i ≡ 1 + i = omega arith in
      ap (λ q. coefficient (times_monomial mul 1 0 1 L) q j) e
      ∙ coefficient-times_monomial size mul field 1 1 L i j ∙ field.one_mul (coefficient L i j) (coefficient_below size mul field L h i j)

  weight_coefficient-low : (a b : ℕ) (L : List Term) (w : ℕ) → w < a → weight_coefficient a b (times_monomial mul 1 0 1 L) w ≡ 0
  weight_coefficient-low a b [] w l = refl
  weight_coefficient-low a b (t ∷ L) w l =
      ap (λ z. bit_xor z (weight_coefficient a b (times_monomial mul 1 0 1 L) w)) (cond_ne (a * (1 + t.i) + b * (0 + t.j)) w (mul 1 t.c) (λ e. absurd (omega arith)))
      ∙ weight_coefficient-low a b L w l

  weight_coefficient-times_x : (a b n : ℕ) (L : List Term) (w : ℕ) → AreNormal size a b n L → weight_coefficient a b (times_monomial mul 1 0 1 L) w ≡ times_x_by_weights a (weight_coefficient a b L) w
  weight_coefficient-times_x a b n L w h =
      elim (cases_lt w a) [
        | inl l ↦ weight_coefficient-low a b L w l ∙ sym (cond-false (leb a w) (weight_coefficient a b L (w - a)) 0 (lt-leb a w l))
        | inr l ↦
            let e : w ≡ a * 1 + b * 0 + (w - a) = omega arith in
            ap (weight_coefficient a b (times_monomial mul 1 0 1 L)) e
            ∙ weight_coefficient-times_monomial size mul field a b 1 0 1 L (w - a)
            ∙ field.one_mul (weight_coefficient a b L (w - a)) (weight_coefficient_below size mul field a b n L (w - a) h)
            ∙ sym (cond-true (leb a w) (weight_coefficient a b L (w - a)) 0 (le-leb a w l))
      ]

module _ (size : ℕ) (mul : ℕ → ℕ → ℕ) (field : IsField size mul) (a b : ℕ) (ts : List Term) (curve : IsEquation size a b ts) where
  -- what is equal to a normal form is that normal form
  pub normal_form_change : (p : ℕ → ℕ → ℕ) (c d : ℕ → ℕ) → ((w : ℕ) → d w ≡ c w) → IsNormalForm size mul a b ts p c → IsNormalForm size mul a b ts p d
  normal_form_change p c d e h = record {
    symbol = λ w. subst (λ (z : ℕ). z < size) (sym (e w)) (h.symbol w);
    members = λ w m. e w ∙ h.members w m;
    bound = h.bound;
    beyond = λ w l. e w ∙ h.beyond w l;
    same = same_change size mul field ts p (by_weights a b c) p (by_weights a b d) (λ i j. refl)
        (λ i j. ap (λ z. cond (ltb j a) z 0) (e (a * i + b * j))) h.same;
  }

  module _ (p : ℕ → ℕ → ℕ) (c : ℕ → ℕ) (h : IsNormalForm size mul a b ts p c) where
    terms_of : List Term
    terms_of = list_of a b c (suc h.bound)

    terms_of-normal : AreNormal size a b h.bound terms_of
    unfolding terms_of
    terms_of-normal = list_of-normal size a b c h.symbol (suc h.bound) h.bound (omega arith)

    terms_of-coefficient : (w : ℕ) → weight_coefficient a b terms_of w ≡ c w
    unfolding terms_of
    terms_of-coefficient w =
        elim (cases_lt w (suc h.bound)) [
          | inl l ↦ list_of-within a b c h.members (suc h.bound) w l
          | inr l ↦ list_of-beyond a b c h.members (suc h.bound) w l ∙ sym (h.beyond w (omega arith))
        ]

    terms_of-same : IsSameModulo size mul ts p (coefficient terms_of)
    terms_of-same =
        same_change size mul field ts p (by_weights a b c) p (coefficient terms_of) (λ i j. refl)
        (λ i j. coefficient-by_weights size a b h.bound terms_of curve.coprime terms_of-normal i j
        ∙ ap (λ z. cond (ltb j a) z 0) (terms_of-coefficient (a * i + b * j))) h.same

    -- y times a normal form
    pub normal_form-times_y : IsNormalForm size mul a b ts (shift_y p) (times_y_by_weights mul a b (relation size mul a ts) h.bound c)
    normal_form-times_y =
        let r : List Term = relation size mul a ts in
        let L : List Term = terms_of in
        normal_form_change (shift_y p) (weight_coefficient a b (times_y mul a r L)) (times_y_by_weights mul a b r h.bound c)
        (λ w. sym (weight_coefficient-times_y size mul field a b h.bound r L w curve.coprime terms_of-normal
        ∙ sum-same (suc h.bound) (λ v. mul (weight_coefficient a b L v) (weight_coefficient a b (y_times_function mul a b r v) w))
        (λ v. mul (c v) (weight_coefficient a b (y_times_function mul a b r v) w))
        (λ v l. ap (λ z. mul z (weight_coefficient a b (y_times_function mul a b r v) w)) (terms_of-coefficient v))))
        (normal_form_from size mul field a b ts curve (shift_y p) (h.bound + b) (times_y mul a r L)
        (times_y-normal size mul field a b h.bound r L (relation-normal size mul field a b ts curve) terms_of-normal)
        (same_trans size mul field ts (shift_y p) (shift_y (coefficient L)) (coefficient (times_y mul a r L))
        (same_shift_y size mul field ts p (coefficient L) terms_of-same)
        (same-times_y size mul field a b ts curve h.bound L terms_of-normal)))

    -- x times a normal form
    pub normal_form-times_x : IsNormalForm size mul a b ts (shift_x p) (times_x_by_weights a c)
    normal_form-times_x =
        let L : List Term = terms_of in
        let moved : List Term = times_monomial mul 1 0 1 L in
        let symbols : AllByRecursion (λ t. t.c < size) L = all_weaken (λ t. IsNormalTerm size a b h.bound t) (λ t. t.c < size) (λ t w. w.symbol) L terms_of-normal in
        normal_form_change (shift_x p) (weight_coefficient a b moved) (times_x_by_weights a c)
        (λ w. sym (weight_coefficient-times_x size mul field a b h.bound L w terms_of-normal
        ∙ ap (λ z. cond (leb a w) z 0) (terms_of-coefficient (w - a))))
        (normal_form_from size mul field a b ts curve (shift_x p) (a * 1 + h.bound) moved
        (times_monomial-normal size mul field a b h.bound 1 1 L terms_of-normal)
        (same_change size mul field ts (shift_x p) (shift_x (coefficient L)) (shift_x p) (coefficient moved) (λ i j. refl)
        (λ i j. coefficient-times_x size mul field L symbols i j)
        (same_shift_x size mul field ts p (coefficient L) terms_of-same)))

  -- 1 is its own normal form
  pub normal_form-one : IsNormalForm size mul a b ts (one (term 0 0 1)) one_by_weights
  normal_form-one =
      normal_form_change (one (term 0 0 1)) (weight_coefficient a b (term 0 0 1 ∷ [])) one_by_weights
      (λ w.
      let z : a * 0 + b * 0 ≡ 0 = omega arith in
      sym (xor_zero_r (cond (eqb (a * 0 + b * 0) w) 1 0) ∙ ap (λ q. cond (eqb q w) 1 0) z ∙ turned w))
      (normal_form-is size mul field a b ts curve 0 0)
    where
      turned : (w : ℕ) → ◌≡◌ {A = ℕ} (cond (eqb 0 w) 1 0) (cond (eqb w 0) 1 0)
      turned w = elim (cases_eq w 0) [
        | inl e ↦ cond_eq 0 w 1 (sym e) ∙ sym (cond_eq w 0 1 e)
        | inr e ↦ cond_ne 0 w 1 (λ f. e (sym f)) ∙ sym (cond_ne w 0 1 e)
      ]
