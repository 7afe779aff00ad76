-- Values of lists of terms
use Rattle.std.proofs.lemmas.Bool.{cases_Bool, and_parts, eqb-true, eq-eqb, ltb-false, cond-true, cond-false, cond_both}
use Rattle.std.specs.List.{AllByRecursion}
use Rattle.std.proofs.lemmas.List.{take_more}
use Rattle.std.proofs.Common.{length, get_or, take, ◌≡◌, ◌≢◌, ℕ, zero, suc, ◌+◌, ◌<◌, ◌≤◌, Bool, true, cond, eqb, ltb, ◌&&◌, not, List, [], ◌∷◌, ◌++◌, sym, ◌∙◌, ap, subst, refl, inl, inr, arith, bit_xor}
use Rattle.std.specs.Int.Bits.{xor_assoc, xor_zero_r}
use Rattle.field_theory.specs.Field.{IsField}
use Rattle.curve_theory.specs.Curve.{Term, power, monomial, value, coefficient}
use Rattle.curve_theory.specs.Normal.{inverse_of, others, times_monomial, relation, times_y}
use Rattle.field_theory.proofs.Sums.{xor_left_comm, xor_same, mul-zero, zero-mul, xor_mul, mul_left_comm, xor_below, zero_below, mul_one}
use Rattle.curve_theory.specs.Semigroup.{first_below}
use Rattle.curve_theory.proofs.Semigroup.{first_below-at_most, first_below-holds}

module _ (size : ℕ) (mul : ℕ → ℕ → ℕ) (field : IsField size mul) where
  pub power_below : (x k : ℕ) → power mul x k < size
  power_below x zero = field.one_below
  power_below x (suc k) = field.mul_below x (power mul x k)

  pub one_mul-power : (x k : ℕ) → mul 1 (power mul x k) ≡ power mul x k
  one_mul-power x k = field.one_mul (power mul x k) (power_below x k)

  pub power-add : (x i j : ℕ) → power mul x (i + j) ≡ mul (power mul x i) (power mul x j)
  power-add x zero j = let e : 0 + j ≡ j = omega arith in ap (power mul x) e ∙ sym (one_mul-power x j)
  power-add x (suc i) j =
      let e : suc i + j ≡ suc (i + j) = omega arith in
      ap (power mul x) e ∙ ap (λ z. mul x z) (power-add x i j) ∙ sym (field.mul_assoc x (power mul x i) (power mul x j))

  -- a product of products, by pairs
  pub mul_mid : (a b c d : ℕ) → mul (mul a b) (mul c d) ≡ mul (mul a c) (mul b d)
  mul_mid a b c d =
      field.mul_assoc a b (mul c d) ∙ ap (λ z. mul a z) (mul_left_comm size mul field b c d) ∙ sym (field.mul_assoc a c (mul b d))

  pub monomial-add : (i j k l x y : ℕ) → monomial mul (i + k) (j + l) x y ≡ mul (monomial mul i j x y) (monomial mul k l x y)
  monomial-add i j k l x y =
      ap (λ z. mul z (power mul y (j + l))) (power-add x i k)
      ∙ ap (λ z. mul (mul (power mul x i) (power mul x k)) z) (power-add y j l)
      ∙ mul_mid (power mul x i) (power mul x k) (power mul y j) (power mul y l)

  pub value-append : (ss ts : List Term) (x y : ℕ) → value mul (ss ++ ts) x y ≡ bit_xor (value mul ss x y) (value mul ts x y)
  value-append [] ts x y = refl
  value-append (s ∷ ss) ts x y =
      ap (λ z. bit_xor (mul s.c (monomial mul s.i s.j x y)) z) (value-append ss ts x y)
      ∙ sym (xor_assoc (mul s.c (monomial mul s.i s.j x y)) (value mul ss x y) (value mul ts x y))

  pub value-times_monomial : (i j c : ℕ) (ts : List Term) (x y : ℕ) → value mul (times_monomial mul i j c ts) x y ≡ mul (mul c (monomial mul i j x y)) (value mul ts x y)
  value-times_monomial i j c [] x y = sym (mul-zero size mul field (mul c (monomial mul i j x y)))
  value-times_monomial i j c (t ∷ ts) x y =
      let m : ℕ = monomial mul i j x y in
      let n : ℕ = monomial mul t.i t.j x y in
      ap (λ z. bit_xor (mul (mul c t.c) z) (value mul (times_monomial mul i j c ts) x y)) (monomial-add i j t.i t.j x y)
      ∙ ap (λ z. bit_xor (mul (mul c t.c) (mul m n)) z) (value-times_monomial i j c ts x y)
      ∙ ap (λ z. bit_xor z (mul (mul c m) (value mul ts x y))) (mul_mid c t.c m n)
      ∙ sym (field.mul_xor (mul c m) (mul t.c n) (value mul ts x y))

  -- one term more, as a loop over the terms has it
  pub value-take_more : (ts : List Term) (k : ℕ) (d : Term) (x y : ℕ) → k < length ts →
      value mul (take (k + 1) ts) x y ≡ bit_xor (value mul (take k ts) x y) (mul (get_or ts k d).c (monomial mul (get_or ts k d).i (get_or ts k d).j x y))
  value-take_more ts k d x y l =
      let t : Term = get_or ts k d in
      ap (λ (z : List Term). value mul z x y) (take_more ts k d l)
      ∙ value-append (take k ts) (t ∷ []) x y
      ∙ ap (λ z. bit_xor (value mul (take k ts) x y) z) (xor_zero_r (mul t.c (monomial mul t.i t.j x y)))

  -- the terms with exponents 0 and a, apart from the others
  pub value-others : (a : ℕ) (ts : List Term) (x y : ℕ) → value mul ts x y ≡ bit_xor (mul (coefficient ts 0 a) (power mul y a)) (value mul (others a ts) x y)
  value-others a [] x y = sym (xor_zero_r (mul 0 (power mul y a)) ∙ zero-mul size mul field (power mul y a))
  value-others a (t ∷ ts) x y =
      let C : ℕ = coefficient ts 0 a in
      let Y : ℕ = power mul y a in
      let V : ℕ = value mul (others a ts) x y in
      let m : ℕ = monomial mul t.i t.j x y in
      let ih : value mul ts x y ≡ bit_xor (mul C Y) V = value-others a ts x y in
      let P : Bool → Type 0 = λ q. bit_xor (mul t.c m) (value mul ts x y) ≡ bit_xor (mul (bit_xor (cond q t.c 0) C) Y) (value mul (cond (not q) (t ∷ others a ts) (others a ts)) x y) in
      elim (cases_Bool (eqb t.i 0 && eqb t.j a)) [
        | inl e ↦
            let both : (eqb t.i 0 ≡ true) × (eqb t.j a ≡ true) = and_parts (eqb t.i 0) (eqb t.j a) e in
            let at : m ≡ Y = ap (λ k. mul (power mul x k) (power mul y t.j)) (eqb-true t.i 0 both.0) ∙ one_mul-power y t.j ∙ ap (power mul y) (eqb-true t.j a both.1) in
            let h : bit_xor (mul t.c m) (value mul ts x y) ≡ bit_xor (mul (bit_xor t.c C) Y) V =
            ap (λ z. bit_xor (mul t.c z) (value mul ts x y)) at ∙ ap (λ z. bit_xor (mul t.c Y) z) ih
            ∙ sym (xor_assoc (mul t.c Y) (mul C Y) V) ∙ ap (λ z. bit_xor z V) (sym (xor_mul size mul field t.c C Y)) in
            subst P (sym e) h
        | inr e ↦
            let h : bit_xor (mul t.c m) (value mul ts x y) ≡ bit_xor (mul C Y) (bit_xor (mul t.c m) V) =
            ap (λ z. bit_xor (mul t.c m) z) ih ∙ xor_left_comm (mul t.c m) (mul C Y) V in
            subst P (sym e) h
      ]

  -- `inverse_of` inverts
  pub mul-inverse_of : (x : ℕ) → x < size → x ≢ 0 → mul x (inverse_of size mul x) ≡ 1
  unfolding inverse_of
  mul-inverse_of x l h =
      let w : (z : ℕ) × (z < size) × (mul x z ≡ 1) = field.inverse x l h in
      let le : first_below size (λ z. eqb (mul x z) 1) ≤ w.0 = first_below-at_most size (λ z. eqb (mul x z) 1) w.0 (eq-eqb (mul x w.0) 1 w.2) in
      let z_lt : w.0 < size = w.1 in
      eqb-true (mul x (first_below size (λ z. eqb (mul x z) 1))) 1 (first_below-holds size (λ z. eqb (mul x z) 1) (omega arith))

  pub inverse_of-below : (x : ℕ) → x < size → x ≢ 0 → inverse_of size mul x < size
  unfolding inverse_of
  inverse_of-below x l h =
      let w : (z : ℕ) × (z < size) × (mul x z ≡ 1) = field.inverse x l h in
      let le : first_below size (λ z. eqb (mul x z) 1) ≤ w.0 = first_below-at_most size (λ z. eqb (mul x z) 1) w.0 (eq-eqb (mul x w.0) 1 w.2) in
      let z_lt : w.0 < size = w.1 in
      omega arith

  -- what inverts x is its inverse
  pub inverse_of-is : (x y : ℕ) → x < size → x ≢ 0 → y < size → mul x y ≡ 1 → inverse_of size mul x ≡ y
  inverse_of-is x y l h m e =
      let u : ℕ = inverse_of size mul x in
      sym (field.one_mul u (inverse_of-below x l h)) ∙ ap (λ z. mul z u) (sym e ∙ field.mul_comm x y)
      ∙ field.mul_assoc y x u ∙ ap (λ z. mul y z) (mul-inverse_of x l h) ∙ mul_one size mul field y m

  pub inverse_of-nonzero : (x : ℕ) → x < size → x ≢ 0 → inverse_of size mul x ≢ 0
  inverse_of-nonzero x l h e =
      let d : ◌≡◌ {A = ℕ} 1 0 = sym (mul-inverse_of x l h) ∙ ap (λ z. mul x z) e ∙ mul-zero size mul field x in
      absurd (omega arith)

  pub coefficient_below : (ts : List Term) → AllByRecursion (λ t. t.c < size) ts → (i j : ℕ) → coefficient ts i j < size
  coefficient_below [] h i j = zero_below size mul field
  coefficient_below (t ∷ ts) h i j =
      xor_below size mul field (cond (eqb t.i i && eqb t.j j) t.c 0) (coefficient ts i j)
      (cond_both (eqb t.i i && eqb t.j j) t.c 0 (λ z. z < size) (λ e. h.0) (λ e. zero_below size mul field))
      (coefficient_below ts h.1 i j)

  -- on the curve the relation has the value y^a
  pub value-relation : (a : ℕ) (ts : List Term) (x y : ℕ) → coefficient ts 0 a < size → coefficient ts 0 a ≢ 0 → value mul ts x y ≡ 0 → value mul (relation size mul a ts) x y ≡ power mul y a
  unfolding relation
  value-relation a ts x y l h on =
      let C : ℕ = coefficient ts 0 a in
      let u : ℕ = inverse_of size mul C in
      let Y : ℕ = power mul y a in
      let V : ℕ = value mul (others a ts) x y in
      let zero_sum : mul C Y ≡ V = xor_same (mul C Y) V (sym (value-others a ts x y) ∙ on) in
      let one_one : mul u (monomial mul 0 0 x y) ≡ u =
      ap (λ z. mul u z) (field.one_mul 1 field.one_below) ∙ mul_one size mul field u (inverse_of-below C l h) in
      value-times_monomial 0 0 u (others a ts) x y
      ∙ ap (λ z. mul z V) one_one ∙ ap (λ z. mul u z) (sym zero_sum) ∙ sym (field.mul_assoc u C Y)
      ∙ ap (λ z. mul z Y) (field.mul_comm u C ∙ mul-inverse_of C l h) ∙ one_mul-power y a

  pub value-times_y : (a : ℕ) (r ts : List Term) (x y : ℕ) → value mul r x y ≡ power mul y a → AllByRecursion (λ t. t.j < a) ts → value mul (times_y mul a r ts) x y ≡ mul y (value mul ts x y)
  value-times_y a r [] x y on h = sym (mul-zero size mul field y)
  value-times_y a r (t ∷ ts) x y on h =
      let X : ℕ = power mul x t.i in
      let Y : ℕ = power mul y t.j in
      let front : List Term = cond (ltb (suc t.j) a) (record { i = t.i; j = suc t.j; c = t.c } ∷ []) (times_monomial mul t.i 0 t.c r) in
      let turn : mul t.c (mul X (mul y Y)) ≡ mul y (mul t.c (mul X Y)) =
      ap (λ z. mul t.c z) (mul_left_comm size mul field X y Y) ∙ mul_left_comm size mul field t.c y (mul X Y) in
      let below : t.j < a = h.0 in
      let head : value mul front x y ≡ mul y (mul t.c (mul X Y)) =
      elim (cases_Bool (ltb (suc t.j) a)) [
        | inl e ↦ ap (λ z. value mul z x y) (cond-true (ltb (suc t.j) a) (record { i = t.i; j = suc t.j; c = t.c } ∷ []) (times_monomial mul t.i 0 t.c r) e)
            ∙ xor_zero_r (mul t.c (mul X (mul y Y))) ∙ turn
        | inr e ↦
            let le : a ≤ suc t.j = ltb-false (suc t.j) a e in
            let top : a ≡ suc t.j = omega arith in
            ap (λ z. value mul z x y) (cond-false (ltb (suc t.j) a) (record { i = t.i; j = suc t.j; c = t.c } ∷ []) (times_monomial mul t.i 0 t.c r) e)
            ∙ value-times_monomial t.i 0 t.c r x y
            ∙ ap (λ z. mul (mul t.c (mul X 1)) z) (on ∙ ap (power mul y) top)
            ∙ field.mul_assoc t.c (mul X 1) (mul y Y)
            ∙ ap (λ z. mul t.c (mul z (mul y Y))) (mul_one size mul field X (power_below x t.i))
            ∙ turn
      ] in
      value-append front (times_y mul a r ts) x y
      ∙ ap (λ z. bit_xor z (value mul (times_y mul a r ts) x y)) head
      ∙ ap (λ z. bit_xor (mul y (mul t.c (mul X Y))) z) (value-times_y a r ts x y on h.1)
      ∙ sym (field.mul_xor y (mul t.c (mul X Y)) (value mul ts x y))
