-- For each of some distinct points of the curve, a combination of the functions that is 1 there and 0 at the others
use Rattle.std.proofs.lemmas.Bool.{cases_eq, cases_lt, cases_Bool, eqb-true, eq-eqb, ne_eqb, cond-true, cond-false, both_ways}
use Rattle.std.specs.List.{AllByRecursion}
use Rattle.std.proofs.lemmas.List.Elements.{recursion_from_All}
use Rattle.std.proofs.Common.{◌≡◌, ◌≢◌, ℕ, zero, suc, ◌+◌, ◌-◌, ◌*◌, ◌<◌, ◌≤◌, Bool, true, false, cond, eqb, ◌&&◌, not, List, [], ◌∷◌, sym, ◌∙◌, ap, subst, refl, inl, inr, arith, bit_xor, mul-le-mul_left}
use Rattle.std.specs.Int.Bits.{xor_self, xor_zero_r}
use Rattle.std.specs.Int.{IsGcd}
use Rattle.field_theory.specs.Field.{IsField}
use Rattle.field_theory.specs.Sums.{xor_sum}
use Rattle.field_theory.specs.Sums.{count_below}
use Rattle.curve_theory.specs.Semigroup.{at_place, is_member, function_count, weight_at}
use Rattle.curve_theory.specs.Curve.{Term, power, monomial, value, coefficient, IsEquation, IsOnCurve, ArePoints}
use Rattle.curve_theory.specs.Normal.{function_value, weight_coefficient, inverse_of, times_monomial, top_weight, combined}
use Rattle.curve_theory.specs.Separation.{times_plus, times_product, without, separating_product, separating_coefficient}
use Rattle.curve_theory.specs.Functions.{IsCurveSeparation}
use Rattle.curve_theory.proofs.Semigroup.{is_member-weight}
use Rattle.field_theory.proofs.Counts.{count_below-yes, count_below-no, count_below-same, count_below-all}
use Rattle.curve_theory.proofs.Places.{IsPlace, at_place-is}
use Rattle.field_theory.proofs.Sums.{eq_or_below, xor_same, mul-zero, zero-mul, xor_mul, xor_below, zero_below, mul_one, one_mul-mul, mul_below-nonzero, sum-same}
use Rattle.curve_theory.proofs.Values.{value-append, value-times_monomial, mul-inverse_of, inverse_of-below}
use Rattle.curve_theory.proofs.Normal.{IsNormalTerm, AreNormal, all_append, all_weaken, weight_coefficient-not_member, weight_coefficient_below, value-by_weights}
use Rattle.curve_theory.proofs.Roots.{column, lead-zero_from_roots, value-by_columns, column_below, column-lead}
use Rattle.curve_theory.proofs.Laws.{sum-at_place}

-- exponents at most m and n, and symbols
pub record IsWithin (size m n : ℕ) (t : Term) : Type 0 where
  pub x_most : t.i ≤ m
  pub y_most : t.j ≤ n
  pub symbol : t.c < size

without-self : (q : ℕ → Bool) (t : ℕ) → without q t t ≡ false
unfolding without
without-self q t = ap (λ z. q t && not z) (eq-eqb t t refl) ∙ and_no (q t)
  where
    and_no : (z : Bool) → (z && false) ≡ false
    and_no true = refl
    and_no false = refl

without-other : (q : ℕ → Bool) (t k : ℕ) → k ≢ t → without q t k ≡ q k
unfolding without
without-other q t k d = ap (λ z. q k && not z) (ne_eqb k t d) ∙ and_yes (q k)
  where
    and_yes : (z : Bool) → (z && true) ≡ z
    and_yes true = refl
    and_yes false = refl

count_without : (n : ℕ) (q : ℕ → Bool) (t : ℕ) → t < n → q t ≡ true → suc (count_below n (without q t)) ≡ count_below n q
count_without zero q t l h = absurd (omega arith)
count_without (suc n) q t l h =
    elim (eq_or_below t n l) [
      | inl e ↦
          let off : without q t n ≡ false = ap (without q t) (sym e) ∙ without-self q t in
          let here : q n ≡ true = ap q (sym e) ∙ h in
          let a : count_below (suc n) (without q t) ≡ count_below n (without q t) = count_below-no n (without q t) off in
          let b : count_below n (without q t) ≡ count_below n q = count_below-same n (without q t) q (λ k m. without-other q t k (omega arith)) in
          let c : count_below (suc n) q ≡ count_below n q + 1 = count_below-yes n q here in
          omega arith
      | inr m ↦
          let ih : suc (count_below n (without q t)) ≡ count_below n q = count_without n q t m h in
          let same : without q t n ≡ q n = without-other q t n (omega arith) in
          let a : count_below n (without q t) + cond (without q t n) 1 0 ≡ count_below n (without q t) + cond (q n) 1 0 = ap (λ z. count_below n (without q t) + cond z 1 0) same in
          omega arith
    ]

module _ (size : ℕ) (mul : ℕ → ℕ → ℕ) (field : IsField size mul) where
  pub value_below : (ts : List Term) (x y : ℕ) → value mul ts x y < size
  value_below [] x y = zero_below size mul field
  value_below (t ∷ ts) x y =
      xor_below size mul field (mul t.c (monomial mul t.i t.j x y)) (value mul ts x y) (field.mul_below t.c (monomial mul t.i t.j x y)) (value_below ts x y)

  value-times_plus : (i j c : ℕ) (ts : List Term) (x y : ℕ) → value mul (times_plus mul i j c ts) x y ≡ mul (bit_xor (monomial mul i j x y) c) (value mul ts x y)
  value-times_plus i j c ts x y =
      let V : ℕ = value mul ts x y in
      let m : ℕ = monomial mul i j x y in
      value-append size mul field (times_monomial mul i j 1 ts) (times_monomial mul 0 0 c ts) x y
      ∙ ap (λ z. bit_xor z (value mul (times_monomial mul 0 0 c ts) x y)) (value-times_monomial size mul field i j 1 ts x y ∙ one_mul-mul size mul field m V)
      ∙ ap (λ z. bit_xor (mul m V) z)
      (value-times_monomial size mul field 0 0 c ts x y
      ∙ ap (λ z. mul (mul c z) V) (field.one_mul 1 field.one_below)
      ∙ ap (λ z. mul z V) (field.mul_comm c 1) ∙ one_mul-mul size mul field c V)
      ∙ sym (xor_mul size mul field m c V)

  times_product-step : (i j : ℕ) (g : ℕ → ℕ) (p : ℕ → Bool) (n : ℕ) (ts : List Term) (x y : ℕ) → p n ≡ true →
      value mul (times_product mul i j g p (suc n) ts) x y ≡ mul (bit_xor (monomial mul i j x y) (g n)) (value mul (times_product mul i j g p n ts) x y)
  times_product-step i j g p n ts x y e =
      ap (λ z. value mul z x y) (cond-true (p n) (times_plus mul i j (g n) (times_product mul i j g p n ts)) (times_product mul i j g p n ts) e)
      ∙ value-times_plus i j (g n) (times_product mul i j g p n ts) x y

  times_product-skip : (i j : ℕ) (g : ℕ → ℕ) (p : ℕ → Bool) (n : ℕ) (ts : List Term) (x y : ℕ) → p n ≡ false →
      value mul (times_product mul i j g p (suc n) ts) x y ≡ value mul (times_product mul i j g p n ts) x y
  times_product-skip i j g p n ts x y e =
      ap (λ z. value mul z x y) (cond-false (p n) (times_plus mul i j (g n) (times_product mul i j g p n ts)) (times_product mul i j g p n ts) e)

  times_product-keeps_zero : (i j : ℕ) (g : ℕ → ℕ) (p : ℕ → Bool) (n : ℕ) (ts : List Term) (x y : ℕ) → value mul ts x y ≡ 0 → value mul (times_product mul i j g p n ts) x y ≡ 0
  times_product-keeps_zero i j g p zero ts x y h = h
  times_product-keeps_zero i j g p (suc n) ts x y h =
      let ih : value mul (times_product mul i j g p n ts) x y ≡ 0 = times_product-keeps_zero i j g p n ts x y h in
      elim (cases_Bool (p n)) [
        | inl e ↦ times_product-step i j g p n ts x y e ∙ ap (λ z. mul (bit_xor (monomial mul i j x y) (g n)) z) ih ∙ mul-zero size mul field (bit_xor (monomial mul i j x y) (g n))
        | inr e ↦ times_product-skip i j g p n ts x y e ∙ ih
      ]

  times_product-zero : (i j : ℕ) (g : ℕ → ℕ) (p : ℕ → Bool) (n : ℕ) (ts : List Term) (x y k : ℕ) → k < n → p k ≡ true → monomial mul i j x y ≡ g k → value mul (times_product mul i j g p n ts) x y ≡ 0
  times_product-zero i j g p zero ts x y k l h e = absurd (omega arith)
  times_product-zero i j g p (suc n) ts x y k l h e =
      let V : ℕ = value mul (times_product mul i j g p n ts) x y in
      let F : ℕ = bit_xor (monomial mul i j x y) (g n) in
      elim (eq_or_below k n l) [
        | inl d ↦
            times_product-step i j g p n ts x y (ap p (sym d) ∙ h)
            ∙ ap (λ z. mul (bit_xor z (g n)) V) (e ∙ ap g d) ∙ ap (λ z. mul z V) (xor_self (g n)) ∙ zero-mul size mul field V
        | inr m ↦
            let ih : V ≡ 0 = times_product-zero i j g p n ts x y k m h e in
            elim (cases_Bool (p n)) [
              | inl q ↦ times_product-step i j g p n ts x y q ∙ ap (λ z. mul F z) ih ∙ mul-zero size mul field F
              | inr q ↦ times_product-skip i j g p n ts x y q ∙ ih
            ]
      ]

  times_product-nonzero : (i j : ℕ) (g : ℕ → ℕ) (p : ℕ → Bool) (n : ℕ) (ts : List Term) (x y : ℕ) → ((k : ℕ) → k < n → g k < size) →
      ((k : ℕ) → k < n → p k ≡ true → monomial mul i j x y ≢ g k) → value mul ts x y ≢ 0 → value mul (times_product mul i j g p n ts) x y ≢ 0
  times_product-nonzero i j g p zero ts x y b h v = v
  times_product-nonzero i j g p (suc n) ts x y b h v =
      let V : ℕ = value mul (times_product mul i j g p n ts) x y in
      let m : ℕ = monomial mul i j x y in
      let ih : V ≢ 0 = times_product-nonzero i j g p n ts x y (λ k l. b k (omega arith)) (λ k l q. h k (omega arith) q) v in
      elim (cases_Bool (p n)) [
        | inl e ↦ λ z.
            mul_below-nonzero size mul field (bit_xor m (g n)) V
            (xor_below size mul field m (g n) (field.mul_below (power mul x i) (power mul y j)) (b n (omega arith))) (value_below (times_product mul i j g p n ts) x y)
            (λ q. h n (omega arith) e (xor_same m (g n) q)) ih (sym (times_product-step i j g p n ts x y e) ∙ z)
        | inr e ↦ λ z. ih (sym (times_product-skip i j g p n ts x y e) ∙ z)
      ]

  times_monomial-within : (i j c m n : ℕ) (ts : List Term) → AllByRecursion (λ t. IsWithin size m n t) ts → AllByRecursion (λ t. IsWithin size (m + i) (n + j) t) (times_monomial mul i j c ts)
  times_monomial-within i j c m n [] h = tt
  times_monomial-within i j c m n (t ∷ ts) h =
      let x_most : t.i ≤ m = h.0.x_most in
      let y_most : t.j ≤ n = h.0.y_most in
      (record { x_most = omega arith; y_most = omega arith; symbol = field.mul_below c t.c }, times_monomial-within i j c m n ts h.1)

  within_weaken : (m n k l : ℕ) (ts : List Term) → m ≤ k → n ≤ l → AllByRecursion (λ t. IsWithin size m n t) ts → AllByRecursion (λ t. IsWithin size k l t) ts
  within_weaken m n k l ts p q h =
      all_weaken (λ t. IsWithin size m n t) (λ t. IsWithin size k l t)
      (λ t w. let x_most : t.i ≤ m = w.x_most in let y_most : t.j ≤ n = w.y_most in record { x_most = omega arith; y_most = omega arith; symbol = w.symbol }) ts h

  times_plus-within : (i j c m n : ℕ) (ts : List Term) → AllByRecursion (λ t. IsWithin size m n t) ts → AllByRecursion (λ t. IsWithin size (m + i) (n + j) t) (times_plus mul i j c ts)
  times_plus-within i j c m n ts h =
      all_append (λ t. IsWithin size (m + i) (n + j) t) (times_monomial mul i j 1 ts) (times_monomial mul 0 0 c ts)
      (times_monomial-within i j 1 m n ts h)
      (within_weaken (m + 0) (n + 0) (m + i) (n + j) (times_monomial mul 0 0 c ts) (omega arith) (omega arith) (times_monomial-within 0 0 c m n ts h))

  times_product-within : (i j : ℕ) (g : ℕ → ℕ) (p : ℕ → Bool) (d m n : ℕ) (ts : List Term) → AllByRecursion (λ t. IsWithin size m n t) ts →
      AllByRecursion (λ t. IsWithin size (m + i * count_below d p) (n + j * count_below d p) t) (times_product mul i j g p d ts)
  times_product-within i j g p zero m n ts h = within_weaken m n (m + i * 0) (n + j * 0) ts (omega arith) (omega arith) h
  times_product-within i j g p (suc d) m n ts h =
      let c : ℕ = count_below d p in
      let T : List Term = times_product mul i j g p d ts in
      let ih : AllByRecursion (λ t. IsWithin size (m + i * c) (n + j * c) t) T = times_product-within i j g p d m n ts h in
      let P : List Term → Type 0 = λ ss. AllByRecursion (λ t. IsWithin size (m + i * count_below (suc d) p) (n + j * count_below (suc d) p) t) ss in
      elim (cases_Bool (p d)) [
        | inl e ↦
            let k : count_below (suc d) p ≡ c + 1 = count_below-yes d p e in
            let ki : i * count_below (suc d) p ≡ i * c + i = ap (λ z. i * z) k ∙ omega arith in
            let kj : j * count_below (suc d) p ≡ j * c + j = ap (λ z. j * z) k ∙ omega arith in
            subst P (sym (cond-true (p d) (times_plus mul i j (g d) T) T e))
            (within_weaken (m + i * c + i) (n + j * c + j) (m + i * count_below (suc d) p) (n + j * count_below (suc d) p) (times_plus mul i j (g d) T) (omega arith) (omega arith)
            (times_plus-within i j (g d) (m + i * c) (n + j * c) T ih))
        | inr e ↦
            let k : count_below (suc d) p ≡ c = count_below-no d p e in
            let ki : i * count_below (suc d) p ≡ i * c = ap (λ z. i * z) k in
            let kj : j * count_below (suc d) p ≡ j * c = ap (λ z. j * z) k in
            subst P (sym (cond-false (p d) (times_plus mul i j (g d) T) T e))
            (within_weaken (m + i * c) (n + j * c) (m + i * count_below (suc d) p) (n + j * count_below (suc d) p) T (omega arith) (omega arith) ih)
      ]

  monomial_x : (x y : ℕ) → x < size → monomial mul 1 0 x y ≡ x
  monomial_x x y l = ap (λ z. mul z 1) (mul_one size mul field x l) ∙ mul_one size mul field x l

  monomial_y : (x y : ℕ) → y < size → monomial mul 0 1 x y ≡ y
  monomial_y x y l = ap (λ z. mul 1 z) (mul_one size mul field y l) ∙ field.one_mul y l

  -- the value of a list of normal terms, by the functions
  pub value-by_functions : (a b top : ℕ) (L : List Term) (x y : ℕ) → IsGcd a b 1 → AreNormal size a b top L →
      value mul L x y ≡ combined mul a b top (λ k. weight_coefficient a b L (weight_at a b top k)) x y
  unfolding weight_at function_count
  value-by_functions a b top L x y g normal =
      let C : ℕ → ℕ = weight_coefficient a b L in
      let F : ℕ → ℕ = λ w. function_value mul a b w x y in
      let e : suc top ≡ top + 1 = omega arith in
      value-by_weights size mul field a b top L x y g normal
      ∙ sum-same (suc top) (λ w. mul (C w) (F w)) (λ w. cond (is_member a b w) (mul (C w) (F w)) 0)
      (λ w l. elim (cases_Bool (is_member a b w)) [
        | inl h ↦ sym (cond-true (is_member a b w) (mul (C w) (F w)) 0 h)
        | inr h ↦
            let zero_c : C w ≡ 0 = weight_coefficient-not_member size a b top w L normal
            (λ k m l e. both_ways (is_member a b w) h (subst (λ (z : ℕ). is_member a b z ≡ true) e (is_member-weight a b k m l))) in
            ap (λ z. mul z (F w)) zero_c ∙ zero-mul size mul field (F w) ∙ sym (cond-false (is_member a b w) (mul (C w) (F w)) 0 h)
      ])
      ∙ ap (λ q. xor_sum q (λ w. cond (is_member a b w) (mul (C w) (F w)) 0)) e
      ∙ sym (sum-at_place (top + 1) (top + 1) (is_member a b) (λ w. mul (C w) (F w)) (omega arith))

module _ (size : ℕ) (mul : ℕ → ℕ → ℕ) (field : IsField size mul) (a b : ℕ) (ts : List Term) (curve : IsEquation size a b ts)
    (n : ℕ) (xs ys : ℕ → ℕ) (points : ArePoints size mul ts n xs ys) where
  y_most : AllByRecursion (λ t. t.j ≤ a) ts
  y_most =
      all_weaken (λ t. a * t.i + b * t.j ≤ a * b) (λ t. t.j ≤ a)
      (λ t h. elim (cases_lt a t.j) [
        | inl m ↦ let p : b * (a + 1) ≤ b * t.j = mul-le-mul_left b (omega arith) in let q : 0 < b = curve.b_above in absurd (omega arith)
        | inr m ↦ m
      ])
      ts (recursion_from_All (λ t. a * t.i + b * t.j ≤ a * b) ts curve.weights)

  -- at most a of the points have one x
  pub column-most : (x : ℕ) → count_below n (λ k. eqb (xs k) x) ≤ a
  column-most x =
      let q : ℕ → Bool = λ k. eqb (xs k) x in
      let at : ℕ → ℕ = at_place n q in
      let f : ℕ → ℕ = λ k. column mul ts x (a - k) in
      elim (cases_lt a (count_below n q)) [
        | inr m ↦ m
        | inl m ↦
            let place : (i : ℕ) → i < suc a → IsPlace n q i (at i) = λ i l. at_place-is n q i (omega arith) in
            let x_is : (i : ℕ) → i < suc a → xs (at i) ≡ x = λ i l. eqb-true (xs (at i)) x (place i l).holds in
            let on : (i : ℕ) → i < suc a → IsOnCurve size mul ts (xs (at i)) (ys (at i)) = λ i l. points.on_curve (at i) (place i l).below in
            let lead : f 0 ≡ 0 =
            lead-zero_from_roots size mul field a f (λ i. ys (at i)) (λ k. column_below size mul field ts x (a - k))
            (λ i l. (on i l).y_below)
            (λ i j l k e.
            let li : i < suc a = omega arith in
            let d : at i ≡ at j = points.distinct (at i) (at j) (place i li).below (place j k).below (x_is i li ∙ sym (x_is j k)) e in
            let same : i ≡ j = sym (place i li).count ∙ ap (λ z. count_below z q) d ∙ (place j k).count in
            absurd (omega arith))
            (λ i l. sym (value-by_columns size mul field a ts x (ys (at i)) y_most) ∙ ap (λ z. value mul ts z (ys (at i))) (sym (x_is i l)) ∙ (on i l).is_zero) in
            let e : a ≡ a - 0 = omega arith in
            let symbols : AllByRecursion (λ t. t.c < size) ts =
            all_weaken (λ t. (0 < t.c) × (t.c < size)) (λ t. t.c < size) (λ t p. p.1) ts (recursion_from_All (λ t. (0 < t.c) × (t.c < size)) ts curve.symbols) in
            let top : coefficient ts 0 a ≡ 0 =
            sym (column-lead size mul field a b curve.a_above curve.b_above ts x (recursion_from_All (λ t. a * t.i + b * t.j ≤ a * b) ts curve.weights) symbols)
            ∙ ap (column mul ts x) e ∙ lead in
            absurd (curve.y_lead top)
      ]

  separating_product-within : (t : ℕ) → t < n → AllByRecursion (λ s. IsWithin size (size - 1) (a - 1) s) (separating_product size mul n xs ys t)
  unfolding separating_product
  separating_product-within t l =
      let on : IsOnCurve size mul ts (xs t) (ys t) = points.on_curve t l in
      let q : ℕ → Bool = λ k. eqb (xs k) (xs t) in
      let cx : ℕ = count_below size (without (λ k. true) (xs t)) in
      let cy : ℕ = count_below n (without q t) in
      let hx : suc cx ≡ size = count_without size (λ k. true) (xs t) on.x_below refl ∙ count_below-all size in
      let hy : suc cy ≡ count_below n q = count_without n q t l (eq-eqb (xs t) (xs t) refl) in
      let most : count_below n q ≤ a = column-most (xs t) in
      let start : AllByRecursion (λ s. IsWithin size 0 0 s) (record { i = 0; j = 0; c = 1 } ∷ []) =
      (record { x_most = omega arith; y_most = omega arith; symbol = field.one_below }, tt) in
      within_weaken size mul field (0 + 1 * cx + 0 * cy) (0 + 0 * cx + 1 * cy) (size - 1) (a - 1)
      (times_product mul 0 1 ys (without q t) n (times_product mul 1 0 (λ c. c) (without (λ k. true) (xs t)) size (record { i = 0; j = 0; c = 1 } ∷ [])))
      (omega arith) (omega arith)
      (times_product-within size mul field 0 1 ys (without q t) n (0 + 1 * cx) (0 + 0 * cx)
      (times_product mul 1 0 (λ c. c) (without (λ k. true) (xs t)) size (record { i = 0; j = 0; c = 1 } ∷ []))
      (times_product-within size mul field 1 0 (λ c. c) (without (λ k. true) (xs t)) size 0 0 (record { i = 0; j = 0; c = 1 } ∷ []) start))

  separating_product-nonzero : (t : ℕ) → t < n → value mul (separating_product size mul n xs ys t) (xs t) (ys t) ≢ 0
  unfolding separating_product
  separating_product-nonzero t l =
      let on : IsOnCurve size mul ts (xs t) (ys t) = points.on_curve t l in
      let q : ℕ → Bool = λ k. eqb (xs k) (xs t) in
      times_product-nonzero size mul field 0 1 ys (without q t) n (times_product mul 1 0 (λ c. c) (without (λ c. true) (xs t)) size (record { i = 0; j = 0; c = 1 } ∷ [])) (xs t) (ys t)
      (λ k m. (points.on_curve k m).y_below)
      (λ k m h e.
      let apart : k ≢ t = λ d. both_ways (without q t k) (ap (without q t) d ∙ without-self q t) h in
      let x_is : xs k ≡ xs t = eqb-true (xs k) (xs t) (sym (without-other q t k apart) ∙ h) in
      apart (points.distinct k t m l x_is (sym e ∙ monomial_y size mul field (xs t) (ys t) on.y_below)))
      (times_product-nonzero size mul field 1 0 (λ c. c) (without (λ k. true) (xs t)) size (record { i = 0; j = 0; c = 1 } ∷ []) (xs t) (ys t)
      (λ k m. m)
      (λ k m h e.
      let x_is : xs t ≡ k = sym (monomial_x size mul field (xs t) (ys t) on.x_below) ∙ e in
      both_ways (without (λ k. true) (xs t) k) (ap (without (λ k. true) (xs t)) (sym x_is) ∙ without-self (λ k. true) (xs t)) h)
      (λ z.
      let one_is : value mul (record { i = 0; j = 0; c = 1 } ∷ []) (xs t) (ys t) ≡ 1 =
      xor_zero_r (mul 1 (mul 1 1)) ∙ ap (λ z. mul 1 z) (field.one_mul 1 field.one_below) ∙ field.one_mul 1 field.one_below in
      let d : ◌≡◌ {A = ℕ} 1 0 = sym one_is ∙ z in absurd (omega arith)))

  separating_product-zero : (t s : ℕ) → t < n → s < n → s ≢ t → value mul (separating_product size mul n xs ys t) (xs s) (ys s) ≡ 0
  unfolding separating_product
  separating_product-zero t s l m d =
      let on : IsOnCurve size mul ts (xs s) (ys s) = points.on_curve s m in
      let q : ℕ → Bool = λ k. eqb (xs k) (xs t) in
      elim (cases_eq (xs s) (xs t)) [
        | inl e ↦ times_product-zero size mul field 0 1 ys (without q t) n (times_product mul 1 0 (λ c. c) (without (λ c. true) (xs t)) size (record { i = 0; j = 0; c = 1 } ∷ [])) (xs s) (ys s) s m
            (without-other q t s d ∙ eq-eqb (xs s) (xs t) e) (monomial_y size mul field (xs s) (ys s) on.y_below)
        | inr e ↦ times_product-keeps_zero size mul field 0 1 ys (without q t) n (times_product mul 1 0 (λ c. c) (without (λ c. true) (xs t)) size (record { i = 0; j = 0; c = 1 } ∷ [])) (xs s) (ys s)
            (times_product-zero size mul field 1 0 (λ c. c) (without (λ k. true) (xs t)) size (record { i = 0; j = 0; c = 1 } ∷ []) (xs s) (ys s) (xs s) on.x_below
            (without-other (λ k. true) (xs t) (xs s) e) (monomial_x size mul field (xs s) (ys s) on.x_below))
      ]

  normal_from_within : (L : List Term) → AllByRecursion (λ s. IsWithin size (size - 1) (a - 1) s) L → AreNormal size a b (top_weight size a b) L
  normal_from_within L h =
      all_weaken (λ s. IsWithin size (size - 1) (a - 1) s) (λ s. IsNormalTerm size a b (top_weight size a b) s)
      (λ s w.
      let pa : 0 < a = curve.a_above in
      let x_le : a * s.i ≤ a * (size - 1) = mul-le-mul_left a w.x_most in
      let y_le : b * s.j ≤ b * (a - 1) = mul-le-mul_left b w.y_most in
      let y_most : s.j ≤ a - 1 = w.y_most in
      record { y_below = omega arith; weight = omega arith; symbol = w.symbol }) L h

  pub separation : (t : ℕ) → t < n → IsCurveSeparation size mul a b n xs ys t
  unfolding separating_coefficient
  separation t l =
      let top : ℕ = top_weight size a b in
      let T : List Term = separating_product size mul n xs ys t in
      let V : ℕ = value mul T (xs t) (ys t) in
      let u : ℕ = inverse_of size mul V in
      let below : V < size = value_below size mul field T (xs t) (ys t) in
      let L : List Term = times_monomial mul 0 0 u T in
      let within : AllByRecursion (λ s. IsWithin size (size - 1) (a - 1) s) L =
      within_weaken size mul field (size - 1 + 0) (a - 1 + 0) (size - 1) (a - 1) L (omega arith) (omega arith)
      (times_monomial-within size mul field 0 0 u (size - 1) (a - 1) T (separating_product-within t l)) in
      let normal : AreNormal size a b top L = normal_from_within L within in
      let scaled : (x y : ℕ) → value mul L x y ≡ mul u (value mul T x y) = λ x y.
      value-times_monomial size mul field 0 0 u T x y
      ∙ ap (λ z. mul (mul u z) (value mul T x y)) (field.one_mul 1 field.one_below)
      ∙ ap (λ z. mul z (value mul T x y)) (mul_one size mul field u (inverse_of-below size mul field V below (separating_product-nonzero t l))) in
      record {
        symbols = λ w. weight_coefficient_below size mul field a b top L w normal;
        values = λ s m.
            sym (value-by_functions size mul field a b top L (xs s) (ys s) curve.coprime normal) ∙ scaled (xs s) (ys s)
            ∙ elim (cases_eq s t) [
              | inl e ↦ ap (λ k. mul u (value mul T (xs k) (ys k))) e ∙ field.mul_comm u V ∙ mul-inverse_of size mul field V below (separating_product-nonzero t l)
                  ∙ sym (cond-true (eqb s t) 1 0 (eq-eqb s t e))
              | inr d ↦ ap (λ z. mul u z) (separating_product-zero t s l m d) ∙ mul-zero size mul field u ∙ sym (cond-false (eqb s t) 1 0 (ne_eqb s t d))
            ];
      }
