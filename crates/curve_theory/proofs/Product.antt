-- The product of two functions of a curve
use Rattle.std.proofs.lemmas.Bool.{cases_eq, cases_Bool, and_parts, and_from, eqb-true, eq-eqb, ne_eqb, ltb-true, ltb-false, lt-ltb, le-ltb, cond-true, cond-false, cond_both, both_ways}
use Rattle.std.specs.List.{AllByRecursion}
use Rattle.std.proofs.lemmas.List.Elements.{recursion_from_All}
use Rattle.std.proofs.Common.{◌≡◌, ◌≢◌, ℕ, zero, suc, ◌+◌, ◌-◌, ◌*◌, ◌<◌, ◌≤◌, Bool, true, false, cond, eqb, ltb, ◌&&◌, not, List, [], ◌∷◌, sym, ◌∙◌, ap, subst, refl, inl, inr, arith, bit_xor}
use Rattle.std.specs.Int.Bits.{xor_zero_r}
use Rattle.field_theory.specs.Field.{IsField}
use Rattle.field_theory.specs.Sums.{xor_sum}
use Rattle.curve_theory.specs.Curve.{Term, monomial, value, coefficient, IsEquation, IsOnCurve}
use Rattle.curve_theory.specs.Semigroup.{is_member, x_exponent, y_exponent}
use Rattle.curve_theory.specs.Normal.{function_value, weight_coefficient, inverse_of, others, times_monomial, relation, times_y, normal_form, product_coefficient, lead_of}
use Rattle.curve_theory.proofs.Semigroup.{exponents-weight, exponents_unique, weight-exponents, y_exponent-lt, is_member-weight}
use Rattle.field_theory.proofs.Sums.{mul_below-nonzero, mul_one}
use Rattle.curve_theory.proofs.Values.{monomial-add, inverse_of-below, inverse_of-nonzero, coefficient_below, value-relation}
use Rattle.curve_theory.proofs.Normal.{AreNormal, all_weaken, cond_ne, cond_eq, weight_coefficient-beyond, weight_coefficient-not_member, weight_coefficient_below, weight_coefficient-times_monomial, value-by_weights, others-normal, times_monomial-normal, normal_form-normal, lead-nonzero, lead-times_y, lead_step, value-normal_form}

module _ (size : ℕ) (mul : ℕ → ℕ → ℕ) (field : IsField size mul) (a b : ℕ) (ts : List Term) (curve : IsEquation size a b ts) where
  symbols_by : AllByRecursion (λ t. t.c < size) ts
  symbols_by = all_weaken (λ t. (0 < t.c) × (t.c < size)) (λ t. t.c < size) (λ t p. p.1) ts (recursion_from_All (λ t. (0 < t.c) × (t.c < size)) ts curve.symbols)

  weights_by : AllByRecursion (λ t. a * t.i + b * t.j ≤ a * b) ts
  weights_by = recursion_from_All (λ t. a * t.i + b * t.j ≤ a * b) ts curve.weights

  y_lead-below : coefficient ts 0 a < size
  y_lead-below = coefficient_below size mul field ts symbols_by 0 a

  pub relation-normal : AreNormal size a b (a * b) (relation size mul a ts)
  unfolding relation
  relation-normal =
      let u : ℕ = inverse_of size mul (coefficient ts 0 a) in
      let h : AreNormal size a b (a * 0 + a * b) (times_monomial mul 0 0 u (others a ts)) =
      times_monomial-normal size mul field a b (a * b) 0 u (others a ts) (others-normal size a b curve.a_above curve.b_above ts symbols_by weights_by) in
      let e : a * 0 + a * b ≡ a * b = omega arith in
      subst (λ (n : ℕ). AreNormal size a b n (times_monomial mul 0 0 u (others a ts))) e h

  -- among the others only x^b has the weight a·b
  others-lead : (ss : List Term) → AllByRecursion (λ t. a * t.i + b * t.j ≤ a * b) ss → AllByRecursion (λ t. t.c < size) ss → weight_coefficient a b (others a ss) (a * b) ≡ coefficient ss b 0
  others-lead [] h k = refl
  others-lead (t ∷ ss) h k =
      let ih : weight_coefficient a b (others a ss) (a * b) ≡ coefficient ss b 0 = others-lead ss h.1 k.1 in
      let pa : 0 < a = curve.a_above in
      let pb : 0 < b = curve.b_above in
      let P : Bool → Type 0 = λ q. weight_coefficient a b (cond (not q) (t ∷ others a ss) (others a ss)) (a * b) ≡ bit_xor (cond (eqb t.i b && eqb t.j 0) t.c 0) (coefficient ss b 0) in
      elim (cases_Bool (eqb t.i 0 && eqb t.j a)) [
        | inl e ↦
            let both : (eqb t.i 0 ≡ true) × (eqb t.j a ≡ true) = and_parts (eqb t.i 0) (eqb t.j a) e in
            let i_zero : t.i ≡ 0 = eqb-true t.i 0 both.0 in
            let off : (eqb t.i b && eqb t.j 0) ≡ false = ap (λ q. q && eqb t.j 0) (ne_eqb t.i b (λ f. let z : 0 < b = pb in absurd (omega arith))) in
            let h : weight_coefficient a b (others a ss) (a * b) ≡ bit_xor (cond (eqb t.i b && eqb t.j 0) t.c 0) (coefficient ss b 0) =
            ih ∙ ap (λ z. bit_xor z (coefficient ss b 0)) (sym (cond-false (eqb t.i b && eqb t.j 0) t.c 0 off)) in
            subst P (sym e) h
        | inr e ↦
            let rest : AreNormal size a b (a * b) (others a (t ∷ [])) = others-normal size a b pa pb (t ∷ []) (k.0, tt) (h.0, tt) in
            let Q : Bool → Type 0 = λ q. AreNormal size a b (a * b) (cond (not q) (t ∷ []) []) in
            let this : AreNormal size a b (a * b) (t ∷ []) = subst Q e rest in
            let same : cond (eqb (a * t.i + b * t.j) (a * b)) t.c 0 ≡ cond (eqb t.i b && eqb t.j 0) t.c 0 =
            elim (cases_eq (a * t.i + b * t.j) (a * b)) [
              | inl f ↦
                  let ij : (t.i ≡ b) × (t.j ≡ 0) = exponents_unique a b t.i t.j b 0 curve.coprime this.0.y_below pa (f ∙ omega arith) in
                  cond_eq (a * t.i + b * t.j) (a * b) t.c f
                  ∙ sym (cond-true (eqb t.i b && eqb t.j 0) t.c 0 (and_from (eqb t.i b) (eqb t.j 0) (eq-eqb t.i b ij.0) (eq-eqb t.j 0 ij.1)))
              | inr f ↦
                  cond_ne (a * t.i + b * t.j) (a * b) t.c f
                  ∙ sym (cond_both (eqb t.i b && eqb t.j 0) t.c 0 (λ z. z ≡ 0)
                  (λ q. let both : (eqb t.i b ≡ true) × (eqb t.j 0 ≡ true) = and_parts (eqb t.i b) (eqb t.j 0) q in
                  let ei : t.i ≡ b = eqb-true t.i b both.0 in
                  let ej : t.j ≡ 0 = eqb-true t.j 0 both.1 in
                  absurd (f (ap (λ z. a * z + b * t.j) ei ∙ ap (λ z. a * b + b * z) ej ∙ omega arith)))
                  (λ q. refl))
            ] in
            let g : bit_xor (cond (eqb (a * t.i + b * t.j) (a * b)) t.c 0) (weight_coefficient a b (others a ss) (a * b)) ≡ bit_xor (cond (eqb t.i b && eqb t.j 0) t.c 0) (coefficient ss b 0) =
            ap (λ z. bit_xor z (weight_coefficient a b (others a ss) (a * b))) same ∙ ap (λ z. bit_xor (cond (eqb t.i b && eqb t.j 0) t.c 0) z) ih in
            subst P (sym e) g
      ]

  pub relation-lead : weight_coefficient a b (relation size mul a ts) (a * b) ≡ mul (coefficient ts b 0) (inverse_of size mul (coefficient ts 0 a))
  unfolding relation
  relation-lead =
      let u : ℕ = inverse_of size mul (coefficient ts 0 a) in
      let e : a * b ≡ a * 0 + b * 0 + a * b = omega arith in
      ap (weight_coefficient a b (times_monomial mul 0 0 u (others a ts))) e
      ∙ weight_coefficient-times_monomial size mul field a b 0 0 u (others a ts) (a * b)
      ∙ ap (λ z. mul u z) (others-lead ts weights_by symbols_by)
      ∙ field.mul_comm u (coefficient ts b 0)

  pub relation-lead_nonzero : weight_coefficient a b (relation size mul a ts) (a * b) ≢ 0
  relation-lead_nonzero =
      subst (λ (z : ℕ). z ≢ 0) (sym relation-lead)
      (mul_below-nonzero size mul field (coefficient ts b 0) (inverse_of size mul (coefficient ts 0 a))
      (coefficient_below size mul field ts symbols_by b 0) (inverse_of-below size mul field (coefficient ts 0 a) y_lead-below curve.y_lead)
      curve.x_lead (inverse_of-nonzero size mul field (coefficient ts 0 a) y_lead-below curve.y_lead))

  -- on the curve the normal form of x^i·y^j has the value of x^i·y^j
  pub normal_form-value : (i j x y : ℕ) → IsOnCurve size mul ts x y → value mul (normal_form mul a (relation size mul a ts) i j) x y ≡ monomial mul i j x y
  normal_form-value i j x y on =
      value-normal_form size mul field a b (relation size mul a ts) i j x y curve.a_above relation-normal
      (value-relation size mul field a ts x y y_lead-below curve.y_lead on.is_zero)

  pub normal_form-is_normal : (i j : ℕ) → AreNormal size a b (a * i + b * j) (normal_form mul a (relation size mul a ts) i j)
  normal_form-is_normal i j = normal_form-normal size mul field a b (relation size mul a ts) i j curve.a_above relation-normal

  lead_low : (i j : ℕ) → j < a → weight_coefficient a b (normal_form mul a (relation size mul a ts) i j) (a * i + b * j) ≡ 1
  unfolding lead_step
  lead_low i zero l = xor_zero_r (cond (eqb (a * i + b * 0) (a * i + b * 0)) 1 0) ∙ cond_eq (a * i + b * 0) (a * i + b * 0) 1 refl
  lead_low i (suc j) l =
      let r : List Term = relation size mul a ts in
      let n : ℕ = a * i + b * j in
      let L : List Term = normal_form mul a r i j in
      let w : a * i + b * suc j ≡ n + b = omega arith in
      let y_is : y_exponent a b n ≡ j = (exponents-weight a b i j curve.coprime (omega arith)).1 in
      let step : lead_step size mul field a b r n ≡ 1 =
      cond-true (ltb (suc (y_exponent a b n)) a) 1 (weight_coefficient a b r (a * b)) (lt-ltb (suc (y_exponent a b n)) a (omega arith)) in
      ap (weight_coefficient a b (times_y mul a r L)) w
      ∙ lead-times_y size mul field a b n r L curve.coprime curve.b_above relation-normal (normal_form-is_normal i j)
      ∙ ap (λ z. mul z (lead_step size mul field a b r n)) (lead_low i j (omega arith))
      ∙ ap (λ z. mul 1 z) step ∙ field.one_mul 1 field.one_below

  lead_high_from : (i k : ℕ) → k < a → (c : ℕ) → a ≡ suc c → weight_coefficient a b (normal_form mul a (relation size mul a ts) i (k + a)) (a * i + b * (k + a)) ≡ weight_coefficient a b (relation size mul a ts) (a * b)
  unfolding lead_step
  lead_high_from i zero l c e =
      let r : List Term = relation size mul a ts in
      let n : ℕ = a * i + b * c in
      let L : List Term = normal_form mul a r i c in
      let R : ℕ = weight_coefficient a b r (a * b) in
      let d : 0 + a ≡ suc c = omega arith in
      let bc : b * (0 + a) ≡ b * c + b = ap (λ z. b * z) d ∙ omega arith in
      let w : a * i + b * (0 + a) ≡ n + b = omega arith in
      let y_is : y_exponent a b n ≡ c = (exponents-weight a b i c curve.coprime (omega arith)).1 in
      let step : lead_step size mul field a b r n ≡ R =
      cond-false (ltb (suc (y_exponent a b n)) a) 1 R (le-ltb (suc (y_exponent a b n)) a (omega arith)) in
      ap (λ z. weight_coefficient a b (normal_form mul a r i z) (a * i + b * (0 + a))) d
      ∙ ap (weight_coefficient a b (times_y mul a r L)) w
      ∙ lead-times_y size mul field a b n r L curve.coprime curve.b_above relation-normal (normal_form-is_normal i c)
      ∙ ap (λ z. mul z (lead_step size mul field a b r n)) (lead_low i c (omega arith))
      ∙ ap (λ z. mul 1 z) step ∙ field.one_mul R (weight_coefficient_below size mul field a b (a * b) r (a * b) relation-normal)
  lead_high_from i (suc k) l c e =
      let r : List Term = relation size mul a ts in
      let n : ℕ = a * i + b * (k + a) in
      let L : List Term = normal_form mul a r i (k + a) in
      let R : ℕ = weight_coefficient a b r (a * b) in
      let d : suc k + a ≡ suc (k + a) = omega arith in
      let w : a * i + b * (suc k + a) ≡ n + b = omega arith in
      let turn : n ≡ a * (i + b) + b * k = omega arith in
      let y_is : y_exponent a b n ≡ k = ap (y_exponent a b) turn ∙ (exponents-weight a b (i + b) k curve.coprime (omega arith)).1 in
      let step : lead_step size mul field a b r n ≡ 1 =
      cond-true (ltb (suc (y_exponent a b n)) a) 1 R (lt-ltb (suc (y_exponent a b n)) a (omega arith)) in
      let ih : weight_coefficient a b L n ≡ R = lead_high_from i k (omega arith) c e in
      ap (λ z. weight_coefficient a b (normal_form mul a r i z) (a * i + b * (suc k + a))) d
      ∙ ap (weight_coefficient a b (times_y mul a r L)) w
      ∙ lead-times_y size mul field a b n r L curve.coprime curve.b_above relation-normal (normal_form-is_normal i (k + a))
      ∙ ap (λ z. mul z (lead_step size mul field a b r n)) ih
      ∙ ap (λ z. mul R z) step ∙ mul_one size mul field R (weight_coefficient_below size mul field a b (a * b) r (a * b) relation-normal)

  lead_high : (i k : ℕ) → k < a → weight_coefficient a b (normal_form mul a (relation size mul a ts) i (k + a)) (a * i + b * (k + a)) ≡ weight_coefficient a b (relation size mul a ts) (a * b)
  lead_high i k l = lead_high_from i k l (a - 1) (let p : 0 < a = curve.a_above in omega arith)

  -- what is known of the coefficients of the product of the functions of the weights u and v
  pub record IsProduct (u v : ℕ) (c : ℕ → ℕ) : Type 0 where
    pub symbol : (w : ℕ) → c w < size
    pub lead : c (u + v) ≡ lead_of size mul a b ts u v
    pub lead_nonzero : c (u + v) ≢ 0
    pub beyond : (w : ℕ) → u + v < w → c w ≡ 0
    pub members : (w : ℕ) → is_member a b w ≡ false → c w ≡ 0
    pub value_is : (x y : ℕ) → IsOnCurve size mul ts x y →
        mul (function_value mul a b u x y) (function_value mul a b v x y)
        ≡ bit_xor (xor_sum (u + v) (λ w. mul (c w) (function_value mul a b w x y))) (mul (c (u + v)) (function_value mul a b (u + v) x y))

  pub product_coefficient-is : (u v : ℕ) → is_member a b u ≡ true → is_member a b v ≡ true → IsProduct u v (product_coefficient size mul a b ts u v)
  unfolding product_coefficient lead_of
  product_coefficient-is u v hu hv =
      let r : List Term = relation size mul a ts in
      let i : ℕ = x_exponent a b u + x_exponent a b v in
      let j : ℕ = y_exponent a b u + y_exponent a b v in
      let L : List Term = normal_form mul a r i j in
      let C : ℕ → ℕ = weight_coefficient a b L in
      let lu : y_exponent a b u < a = y_exponent-lt a b u hu in
      let lv : y_exponent a b v < a = y_exponent-lt a b v hv in
      let eu : a * x_exponent a b u + b * y_exponent a b u ≡ u = weight-exponents a b u hu in
      let ev : a * x_exponent a b v + b * y_exponent a b v ≡ v = weight-exponents a b v hv in
      let n : a * i + b * j ≡ u + v = omega arith in
      let normal : AreNormal size a b (u + v) L = subst (λ (z : ℕ). AreNormal size a b z L) n (normal_form-is_normal i j) in
      let Q : ℕ = mul (coefficient ts b 0) (inverse_of size mul (coefficient ts 0 a)) in
      let lead : C (u + v) ≡ cond (ltb j a) 1 Q =
      elim (cases_Bool (ltb j a)) [
        | inl e ↦ ap C (sym n) ∙ lead_low i j (ltb-true j a e) ∙ sym (cond-true (ltb j a) 1 Q e)
        | inr e ↦
            let ge : a ≤ j = ltb-false j a e in
            let d : j ≡ (j - a) + a = omega arith in
            ap C (sym n)
            ∙ ap (λ z. weight_coefficient a b (normal_form mul a r i z) (a * i + b * z)) d
            ∙ lead_high i (j - a) (omega arith)
            ∙ relation-lead
            ∙ sym (cond-false (ltb j a) 1 Q e)
      ] in
      record {
        symbol = λ w. weight_coefficient_below size mul field a b (u + v) L w normal;
        lead = lead;
        lead_nonzero = subst (λ (z : ℕ). C z ≢ 0) n (lead-nonzero size mul field a b r i j curve.coprime curve.a_above curve.b_above relation-normal relation-lead_nonzero);
        beyond = λ w l. weight_coefficient-beyond size a b (u + v) w L normal l;
        members = λ w h. weight_coefficient-not_member size a b (u + v) w L normal
            (λ k m l e. both_ways (is_member a b w) h (subst (λ (z : ℕ). is_member a b z ≡ true) e (is_member-weight a b k m l)));
        value_is = λ x y on.
            sym (monomial-add size mul field (x_exponent a b u) (y_exponent a b u) (x_exponent a b v) (y_exponent a b v) x y)
            ∙ sym (normal_form-value i j x y on)
            ∙ value-by_weights size mul field a b (u + v) L x y curve.coprime normal;
      }
