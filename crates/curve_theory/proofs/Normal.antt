-- The normal form of a monomial: its weights, its lead, and its value on the curve
use Rattle.std.proofs.lemmas.Bool.{cases_eq, cases_lt, cases_Bool, and_from, eq-eqb, ne_eqb, ltb-true, ltb-false, cond-true, cond-false, cond_both, both_ways}
use Rattle.std.specs.List.{AllByRecursion}
use Rattle.std.proofs.Common.{◌≡◌, ◌≢◌, ℕ, zero, suc, ◌+◌, ◌*◌, ◌<◌, ◌≤◌, Bool, true, false, cond, eqb, ltb, ◌&&◌, not, List, [], ◌∷◌, ◌++◌, sym, ◌∙◌, ap, subst, refl, inl, inr, arith, bit_xor, mul-le-mul_left}
use Rattle.std.specs.Int.{IsGcd}
use Rattle.std.specs.Int.Bits.{xor_assoc, xor_zero_r}
use Rattle.field_theory.specs.Field.{IsField}
use Rattle.field_theory.specs.Sums.{xor_sum}
use Rattle.curve_theory.specs.Curve.{Term, power, monomial, value}
use Rattle.curve_theory.specs.Semigroup.{x_exponent, y_exponent}
use Rattle.curve_theory.specs.Normal.{function_value, weight_coefficient, others, times_monomial, times_y, normal_form}
use Rattle.curve_theory.proofs.Semigroup.{exponents-weight}
use Rattle.field_theory.proofs.Sums.{sum-same, sum-xor, sum-zero, sum-only, mul-zero, zero-mul, xor_mul, xor_below, zero_below, mul_one, mul_left_comm, mul_below-nonzero}
use Rattle.curve_theory.proofs.Values.{value-times_y}

-- a term of a normal form whose weights are at most w
pub record IsNormalTerm (size a b w : ℕ) (t : Term) : Type 0 where
  pub y_below : t.j < a
  pub weight : a * t.i + b * t.j ≤ w
  pub symbol : t.c < size

abbrev pub AreNormal : (size a b w : ℕ) → List Term → Type 0
AreNormal size a b w ts = AllByRecursion (λ t. IsNormalTerm size a b w t) ts

pub all_append : (P : Term → Type 0) (ss ts : List Term) → AllByRecursion P ss → AllByRecursion P ts → AllByRecursion P (ss ++ ts)
all_append P [] ts h k = k
all_append P (s ∷ ss) ts h k = (h.0, all_append P ss ts h.1 k)

pub all_weaken : (P Q : Term → Type 0) → ((t : Term) → P t → Q t) → (ts : List Term) → AllByRecursion P ts → AllByRecursion Q ts
all_weaken P Q f [] h = tt
all_weaken P Q f (t ∷ ts) h = (f t h.0, all_weaken P Q f ts h.1)

pub weight_coefficient-append : (a b : ℕ) (ss ts : List Term) (w : ℕ) → weight_coefficient a b (ss ++ ts) w ≡ bit_xor (weight_coefficient a b ss w) (weight_coefficient a b ts w)
weight_coefficient-append a b [] ts w = refl
weight_coefficient-append a b (s ∷ ss) ts w =
    ap (λ z. bit_xor (cond (eqb (a * s.i + b * s.j) w) s.c 0) z) (weight_coefficient-append a b ss ts w)
    ∙ sym (xor_assoc (cond (eqb (a * s.i + b * s.j) w) s.c 0) (weight_coefficient a b ss w) (weight_coefficient a b ts w))

pub cond_ne : (u w c : ℕ) → u ≢ w → cond (eqb u w) c 0 ≡ 0
cond_ne u w c h = cond-false (eqb u w) c 0 (ne_eqb u w h)

pub cond_eq : (u w c : ℕ) → u ≡ w → cond (eqb u w) c 0 ≡ c
cond_eq u w c h = cond-true (eqb u w) c 0 (eq-eqb u w h)

-- beyond its weights a list has no coefficient
pub weight_coefficient-beyond : (size a b n w : ℕ) (ts : List Term) → AreNormal size a b n ts → n < w → weight_coefficient a b ts w ≡ 0
weight_coefficient-beyond size a b n w [] h l = refl
weight_coefficient-beyond size a b n w (t ∷ ts) h l =
    let le : a * t.i + b * t.j ≤ n = h.0.weight in
    ap (λ z. bit_xor z (weight_coefficient a b ts w)) (cond_ne (a * t.i + b * t.j) w t.c (omega arith))
    ∙ weight_coefficient-beyond size a b n w ts h.1 l

-- nor at a number that is no member
pub weight_coefficient-not_member : (size a b n w : ℕ) (ts : List Term) → AreNormal size a b n ts → ((i j : ℕ) → j < a → a * i + b * j ≢ w) → weight_coefficient a b ts w ≡ 0
weight_coefficient-not_member size a b n w [] h apart = refl
weight_coefficient-not_member size a b n w (t ∷ ts) h apart =
    ap (λ z. bit_xor z (weight_coefficient a b ts w)) (cond_ne (a * t.i + b * t.j) w t.c (apart t.i t.j h.0.y_below))
    ∙ weight_coefficient-not_member size a b n w ts h.1 apart

module _ (size : ℕ) (mul : ℕ → ℕ → ℕ) (field : IsField size mul) where
  pub weight_coefficient_below : (a b n : ℕ) (ts : List Term) (w : ℕ) → AreNormal size a b n ts → weight_coefficient a b ts w < size
  weight_coefficient_below a b n [] w h = zero_below size mul field
  weight_coefficient_below a b n (t ∷ ts) w h =
      xor_below size mul field (cond (eqb (a * t.i + b * t.j) w) t.c 0) (weight_coefficient a b ts w)
      (cond_both (eqb (a * t.i + b * t.j) w) t.c 0 (λ z. z < size) (λ e. h.0.symbol) (λ e. zero_below size mul field))
      (weight_coefficient_below a b n ts w h.1)

  mul-cond : (q : Bool) (c d : ℕ) → mul c (cond q d 0) ≡ cond q (mul c d) 0
  mul-cond true c d = refl
  mul-cond false c d = mul-zero size mul field c

  cond-mul : (q : Bool) (c d : ℕ) → mul (cond q c 0) d ≡ cond q (mul c d) 0
  cond-mul true c d = refl
  cond-mul false c d = zero-mul size mul field d

  eqb_shift : (k u w : ℕ) → eqb (k + u) (k + w) ≡ eqb u w
  eqb_shift k u w =
      elim (cases_eq u w) [
        | inl e ↦ eq-eqb (k + u) (k + w) (ap (λ x. k + x) e) ∙ sym (eq-eqb u w e)
        | inr e ↦ ne_eqb (k + u) (k + w) (λ f. e (omega arith)) ∙ sym (ne_eqb u w e)
      ]

  pub weight_coefficient-times_monomial : (a b i j c : ℕ) (ts : List Term) (w : ℕ) → weight_coefficient a b (times_monomial mul i j c ts) (a * i + b * j + w) ≡ mul c (weight_coefficient a b ts w)
  weight_coefficient-times_monomial a b i j c [] w = sym (mul-zero size mul field c)
  weight_coefficient-times_monomial a b i j c (t ∷ ts) w =
      let k : ℕ = a * i + b * j in
      let e : a * (i + t.i) + b * (j + t.j) ≡ k + (a * t.i + b * t.j) = omega arith in
      ap (λ z. bit_xor (cond (eqb z (k + w)) (mul c t.c) 0) (weight_coefficient a b (times_monomial mul i j c ts) (k + w))) e
      ∙ ap (λ z. bit_xor (cond z (mul c t.c) 0) (weight_coefficient a b (times_monomial mul i j c ts) (k + w))) (eqb_shift k (a * t.i + b * t.j) w)
      ∙ ap (λ z. bit_xor z (weight_coefficient a b (times_monomial mul i j c ts) (k + w))) (sym (mul-cond (eqb (a * t.i + b * t.j) w) c t.c))
      ∙ ap (λ z. bit_xor (mul c (cond (eqb (a * t.i + b * t.j) w) t.c 0)) z) (weight_coefficient-times_monomial a b i j c ts w)
      ∙ sym (field.mul_xor c (cond (eqb (a * t.i + b * t.j) w) t.c 0) (weight_coefficient a b ts w))

  -- the value of a list of normal terms, by weights
  pub value-by_weights : (a b n : ℕ) (ts : List Term) (x y : ℕ) → IsGcd a b 1 → AreNormal size a b n ts →
      value mul ts x y ≡ xor_sum (suc n) (λ w. mul (weight_coefficient a b ts w) (function_value mul a b w x y))
  value-by_weights a b n [] x y g h = sym (sum-zero (suc n) (λ w. mul 0 (function_value mul a b w x y)) (λ w l. zero-mul size mul field (function_value mul a b w x y)))
  value-by_weights a b n (t ∷ ts) x y g h =
      let u : ℕ = a * t.i + b * t.j in
      let F : ℕ → ℕ = λ w. function_value mul a b w x y in
      let D : ℕ → ℕ = λ w. mul (cond (eqb u w) t.c 0) (F w) in
      let R : ℕ → ℕ = λ w. mul (weight_coefficient a b ts w) (F w) in
      let both : (x_exponent a b u ≡ t.i) × (y_exponent a b u ≡ t.j) = exponents-weight a b t.i t.j g h.0.y_below in
      let at : F u ≡ monomial mul t.i t.j x y =
      ap (λ k. mul (power mul x k) (power mul y (y_exponent a b u))) both.0 ∙ ap (λ k. mul (power mul x t.i) (power mul y k)) both.1 in
      let le : u ≤ n = h.0.weight in
      let only : xor_sum (suc n) D ≡ D u =
      sum-only (suc n) D u (omega arith) (λ w l d. ap (λ z. mul z (F w)) (cond_ne u w t.c (λ e. d (sym e))) ∙ zero-mul size mul field (F w)) in
      let first : xor_sum (suc n) D ≡ mul t.c (monomial mul t.i t.j x y) =
      only ∙ ap (λ z. mul z (F u)) (cond_eq u u t.c refl) ∙ ap (λ z. mul t.c z) at in
      ap (λ z. bit_xor (mul t.c (monomial mul t.i t.j x y)) z) (value-by_weights a b n ts x y g h.1)
      ∙ ap (λ z. bit_xor z (xor_sum (suc n) R)) (sym first)
      ∙ sym (sum-xor (suc n) D R)
      ∙ sum-same (suc n) (λ w. bit_xor (D w) (R w)) (λ w. mul (bit_xor (cond (eqb u w) t.c 0) (weight_coefficient a b ts w)) (F w))
      (λ w l. sym (xor_mul size mul field (cond (eqb u w) t.c 0) (weight_coefficient a b ts w) (F w)))

-- a term of the equation other than y^a has y below a
pub other_below : (a b i j : ℕ) → 0 < a → 0 < b → a * i + b * j ≤ a * b → (eqb i 0 && eqb j a) ≡ false → j < a
other_below a b i j pa pb l h =
    elim (cases_lt j a) [
      | inl m ↦ m
      | inr m ↦
          let k : b * a ≤ b * j = mul-le-mul_left b m in
          let z : a * i ≡ 0 = omega arith in
          let i_zero : i ≡ 0 = elim (cases_eq i 0) [ inl e ↦ e | inr e ↦ let p : a * 1 ≤ a * i = mul-le-mul_left a (omega arith) in absurd (omega arith) ] in
          let j_top : j ≡ a = elim (cases_eq j a) [ inl e ↦ e | inr e ↦ let p : b * (a + 1) ≤ b * j = mul-le-mul_left b (omega arith) in absurd (omega arith) ] in
          absurd (both_ways (eqb i 0 && eqb j a) h (and_from (eqb i 0) (eqb j a) (eq-eqb i 0 i_zero) (eq-eqb j a j_top)))
    ]

pub others-normal : (size a b : ℕ) → 0 < a → 0 < b → (ts : List Term) → AllByRecursion (λ t. t.c < size) ts → AllByRecursion (λ t. a * t.i + b * t.j ≤ a * b) ts → AreNormal size a b (a * b) (others a ts)
others-normal size a b pa pb [] h k = tt
others-normal size a b pa pb (t ∷ ts) h k =
    let rest : AreNormal size a b (a * b) (others a ts) = others-normal size a b pa pb ts h.1 k.1 in
    let P : Bool → Type 0 = λ q. AreNormal size a b (a * b) (cond (not q) (t ∷ others a ts) (others a ts)) in
    elim (cases_Bool (eqb t.i 0 && eqb t.j a)) [
      | inl e ↦ subst P (sym e) rest
      | inr e ↦ subst P (sym e) (record { y_below = other_below a b t.i t.j pa pb k.0 e; weight = k.0; symbol = h.0 }, rest)
    ]

module _ (size : ℕ) (mul : ℕ → ℕ → ℕ) (field : IsField size mul) where
  pub times_monomial-normal : (a b n i c : ℕ) (ts : List Term) → AreNormal size a b n ts → AreNormal size a b (a * i + n) (times_monomial mul i 0 c ts)
  times_monomial-normal a b n i c [] h = tt
  times_monomial-normal a b n i c (t ∷ ts) h =
      let below : t.j < a = h.0.y_below in
      let le : a * t.i + b * t.j ≤ n = h.0.weight in
      let e : 0 + t.j ≡ t.j = omega arith in
      (record { y_below = omega arith; weight = omega arith; symbol = field.mul_below c t.c }, times_monomial-normal a b n i c ts h.1)

  pub times_y-normal : (a b n : ℕ) (r ts : List Term) → AreNormal size a b (a * b) r → AreNormal size a b n ts → AreNormal size a b (n + b) (times_y mul a r ts)
  times_y-normal a b n r [] k h = tt
  times_y-normal a b n r (t ∷ ts) k h =
      let front : List Term = cond (ltb (suc t.j) a) (record { i = t.i; j = suc t.j; c = t.c } ∷ []) (times_monomial mul t.i 0 t.c r) in
      let below : t.j < a = h.0.y_below in
      let le : a * t.i + b * t.j ≤ n = h.0.weight in
      let head : AreNormal size a b (n + b) front =
      elim (cases_Bool (ltb (suc t.j) a)) [
        | inl e ↦
            let lt : suc t.j < a = ltb-true (suc t.j) a e in
            subst (λ (z : List Term). AreNormal size a b (n + b) z)
            (sym (cond-true (ltb (suc t.j) a) (record { i = t.i; j = suc t.j; c = t.c } ∷ []) (times_monomial mul t.i 0 t.c r) e))
            (record { y_below = lt; weight = omega arith; symbol = h.0.symbol }, tt)
        | inr e ↦
            let ge : a ≤ suc t.j = ltb-false (suc t.j) a e in
            let top : a ≡ suc t.j = omega arith in
            let ab : a * b ≡ b * t.j + b = ap (λ z. z * b) top ∙ omega arith in
            let all : AreNormal size a b (a * t.i + a * b) (times_monomial mul t.i 0 t.c r) = times_monomial-normal a b (a * b) t.i t.c r k in
            subst (λ (z : List Term). AreNormal size a b (n + b) z)
            (sym (cond-false (ltb (suc t.j) a) (record { i = t.i; j = suc t.j; c = t.c } ∷ []) (times_monomial mul t.i 0 t.c r) e))
            (all_weaken (λ s. IsNormalTerm size a b (a * t.i + a * b) s) (λ s. IsNormalTerm size a b (n + b) s)
            (λ s p. let w : a * s.i + b * s.j ≤ a * t.i + a * b = p.weight in record { y_below = p.y_below; weight = omega arith; symbol = p.symbol })
            (times_monomial mul t.i 0 t.c r) all)
      ] in
      all_append (λ s. IsNormalTerm size a b (n + b) s) front (times_y mul a r ts) head (times_y-normal a b n r ts k h.1)

  pub normal_form-normal : (a b : ℕ) (r : List Term) (i j : ℕ) → 0 < a → AreNormal size a b (a * b) r → AreNormal size a b (a * i + b * j) (normal_form mul a r i j)
  normal_form-normal a b r i zero pa k = (record { y_below = pa; weight = omega arith; symbol = field.one_below }, tt)
  normal_form-normal a b r i (suc j) pa k =
      let e : a * i + b * j + b ≡ a * i + b * suc j = omega arith in
      subst (λ (z : ℕ). AreNormal size a b z (times_y mul a r (normal_form mul a r i j))) e
      (times_y-normal a b (a * i + b * j) r (normal_form mul a r i j) k (normal_form-normal a b r i j pa k))

  -- by what the lead of weight w is multiplied, when y is
  unfoldable pub lead_step : (a b : ℕ) (r : List Term) (w : ℕ) → ℕ
  lead_step a b r w = cond (ltb (suc (y_exponent a b w)) a) 1 (weight_coefficient a b r (a * b))

  pub lead-times_y : (a b n : ℕ) (r ts : List Term) → IsGcd a b 1 → 0 < b → AreNormal size a b (a * b) r → AreNormal size a b n ts →
      weight_coefficient a b (times_y mul a r ts) (n + b) ≡ mul (weight_coefficient a b ts n) (lead_step a b r n)
  unfolding lead_step
  lead-times_y a b n r [] g pb k h = sym (zero-mul size mul field (lead_step a b r n))
  lead-times_y a b n r (t ∷ ts) g pb k h =
      let one : List Term = record { i = t.i; j = suc t.j; c = t.c } ∷ [] in
      let many : List Term = times_monomial mul t.i 0 t.c r in
      let front : List Term = cond (ltb (suc t.j) a) one many in
      let u : ℕ = a * t.i + b * t.j in
      let S : ℕ = lead_step a b r n in
      let below : t.j < a = h.0.y_below in
      let le : u ≤ n = h.0.weight in
      let head : weight_coefficient a b front (n + b) ≡ mul (cond (eqb u n) t.c 0) S =
      elim (cases_eq u n) [
        | inl d ↦
            let both : (x_exponent a b u ≡ t.i) × (y_exponent a b u ≡ t.j) = exponents-weight a b t.i t.j g below in
            let y_is : y_exponent a b n ≡ t.j = ap (y_exponent a b) (sym d) ∙ both.1 in
            let right : mul (cond (eqb u n) t.c 0) S ≡ mul t.c (cond (ltb (suc t.j) a) 1 (weight_coefficient a b r (a * b))) =
            ap (λ z. mul z S) (cond_eq u n t.c d) ∙ ap (λ z. mul t.c (cond (ltb (suc z) a) 1 (weight_coefficient a b r (a * b)))) y_is in
            elim (cases_Bool (ltb (suc t.j) a)) [
              | inl e ↦
                  ap (λ z. weight_coefficient a b z (n + b)) (cond-true (ltb (suc t.j) a) one many e)
                  ∙ xor_zero_r (cond (eqb (a * t.i + b * suc t.j) (n + b)) t.c 0)
                  ∙ cond_eq (a * t.i + b * suc t.j) (n + b) t.c (omega arith)
                  ∙ sym (mul_one size mul field t.c h.0.symbol)
                  ∙ ap (λ z. mul t.c z) (sym (cond-true (ltb (suc t.j) a) 1 (weight_coefficient a b r (a * b)) e))
                  ∙ sym right
              | inr e ↦
                  let ge : a ≤ suc t.j = ltb-false (suc t.j) a e in
                  let top : a ≡ suc t.j = omega arith in
                  let ab : a * b ≡ b * t.j + b = ap (λ z. z * b) top ∙ omega arith in
                  let w : n + b ≡ a * t.i + b * 0 + a * b = omega arith in
                  ap (λ z. weight_coefficient a b z (n + b)) (cond-false (ltb (suc t.j) a) one many e)
                  ∙ ap (λ z. weight_coefficient a b many z) w
                  ∙ weight_coefficient-times_monomial size mul field a b t.i 0 t.c r (a * b)
                  ∙ ap (λ z. mul t.c z) (sym (cond-false (ltb (suc t.j) a) 1 (weight_coefficient a b r (a * b)) e))
                  ∙ sym right
            ]
        | inr d ↦
            let right : mul (cond (eqb u n) t.c 0) S ≡ 0 = ap (λ z. mul z S) (cond_ne u n t.c d) ∙ zero-mul size mul field S in
            let lone : AllByRecursion (λ s. IsNormalTerm size a b u s) (t ∷ []) = (record { y_below = below; weight = omega arith; symbol = h.0.symbol }, tt) in
            let moved : AreNormal size a b (u + b) (times_y mul a r (t ∷ [])) = times_y-normal a b u r (t ∷ []) k lone in
            let parts : weight_coefficient a b (front ++ []) (n + b) ≡ 0 = weight_coefficient-beyond size a b (u + b) (n + b) (front ++ []) moved (omega arith) in
            sym (xor_zero_r (weight_coefficient a b front (n + b))) ∙ sym (weight_coefficient-append a b front [] (n + b)) ∙ parts ∙ sym right
      ] in
      weight_coefficient-append a b front (times_y mul a r ts) (n + b)
      ∙ ap (λ z. bit_xor z (weight_coefficient a b (times_y mul a r ts) (n + b))) head
      ∙ ap (λ z. bit_xor (mul (cond (eqb u n) t.c 0) S) z) (lead-times_y a b n r ts g pb k h.1)
      ∙ sym (xor_mul size mul field (cond (eqb u n) t.c 0) (weight_coefficient a b ts n) S)

  -- the lead of x^i·y^j is not 0
  pub lead-nonzero : (a b : ℕ) (r : List Term) (i j : ℕ) → IsGcd a b 1 → 0 < a → 0 < b → AreNormal size a b (a * b) r → weight_coefficient a b r (a * b) ≢ 0 →
      weight_coefficient a b (normal_form mul a r i j) (a * i + b * j) ≢ 0
  unfolding lead_step
  lead-nonzero a b r i zero g pa pb k h =
      let e : weight_coefficient a b (normal_form mul a r i 0) (a * i + b * 0) ≡ 1 =
      xor_zero_r (cond (eqb (a * i + b * 0) (a * i + b * 0)) 1 0) ∙ cond_eq (a * i + b * 0) (a * i + b * 0) 1 refl in
      λ z. let d : ◌≡◌ {A = ℕ} 1 0 = sym e ∙ z in absurd (omega arith)
  lead-nonzero a b r i (suc j) g pa pb k h =
      let n : ℕ = a * i + b * j in
      let L : List Term = normal_form mul a r i j in
      let normal : AreNormal size a b n L = normal_form-normal a b r i j pa k in
      let R : ℕ = weight_coefficient a b r (a * b) in
      let e : weight_coefficient a b (times_y mul a r L) (n + b) ≡ mul (weight_coefficient a b L n) (lead_step a b r n) = lead-times_y a b n r L g pb k normal in
      let w : a * i + b * suc j ≡ n + b = omega arith in
      let one : 1 < size = field.one_below in
      let step_below : lead_step a b r n < size =
      cond_both (ltb (suc (y_exponent a b n)) a) 1 R (λ z. z < size) (λ q. one) (λ q. weight_coefficient_below size mul field a b (a * b) r (a * b) k) in
      let step_nonzero : lead_step a b r n ≢ 0 =
      cond_both (ltb (suc (y_exponent a b n)) a) 1 R (λ z. z ≢ 0) (λ q z. let d : ◌≡◌ {A = ℕ} 1 0 = z in absurd (omega arith)) (λ q. h) in
      λ z. mul_below-nonzero size mul field (weight_coefficient a b L n) (lead_step a b r n)
      (weight_coefficient_below size mul field a b n L n normal) step_below
      (lead-nonzero a b r i j g pa pb k h) step_nonzero
      (sym e ∙ ap (weight_coefficient a b (times_y mul a r L)) (sym w) ∙ z)

  -- on the curve a normal form has the value of its monomial
  pub value-normal_form : (a b : ℕ) (r : List Term) (i j x y : ℕ) → 0 < a → AreNormal size a b (a * b) r → value mul r x y ≡ power mul y a →
      value mul (normal_form mul a r i j) x y ≡ monomial mul i j x y
  value-normal_form a b r i zero x y pa k on =
      xor_zero_r (mul 1 (monomial mul i 0 x y)) ∙ field.one_mul (monomial mul i 0 x y) (field.mul_below (power mul x i) 1)
  value-normal_form a b r i (suc j) x y pa k on =
      let L : List Term = normal_form mul a r i j in
      let n : ℕ = a * i + b * j in
      value-times_y size mul field a r L x y on
      (all_weaken (λ t. IsNormalTerm size a b n t) (λ t. t.j < a) (λ t p. p.y_below) L (normal_form-normal a b r i j pa k))
      ∙ ap (λ z. mul y z) (value-normal_form a b r i j x y pa k on)
      ∙ mul_left_comm size mul field y (power mul x i) (power mul y j)
