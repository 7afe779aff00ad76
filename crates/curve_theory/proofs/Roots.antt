-- A polynomial in y of degree n whose lead is not 0 has at most n roots
use Rattle.std.proofs.lemmas.Bool.{cases_eq, and_parts, and_from, eqb-true, eq-eqb, ne_eqb, cond-true, cond-false, cond_both}
use Rattle.std.specs.List.{AllByRecursion}
use Rattle.std.proofs.Common.{◌≡◌, ◌≢◌, ℕ, zero, suc, ◌+◌, ◌-◌, ◌*◌, ◌<◌, ◌≤◌, cond, eqb, ◌&&◌, List, [], ◌∷◌, sym, ◌∙◌, ap, refl, inl, inr, arith, bit_xor, mul-le-mul_left}
use Rattle.std.specs.Int.Bits.{xor_assoc, xor_zero_r}
use Rattle.field_theory.specs.Field.{IsField}
use Rattle.curve_theory.specs.Curve.{Term, power, value, coefficient}
use Rattle.field_theory.proofs.Sums.{xor_cancel, xor_same, xor_mid, mul-zero, xor_mul, mul_left_comm, xor_below, mul_one, mul_below-nonzero}

-- f 0·y^n + f 1·y^(n-1) + .. + f n
abbrev pub horner : (mul : ℕ → ℕ → ℕ) → (ℕ → ℕ) → ℕ → ℕ → ℕ
horner mul f zero y = f 0
horner mul f (suc n) y = bit_xor (mul y (horner mul f n y)) (f (suc n))

-- the sum of the terms with exponent j of y, at x
abbrev pub column : (mul : ℕ → ℕ → ℕ) → List Term → ℕ → ℕ → ℕ
column mul [] x j = 0
column mul (t ∷ ts) x j = bit_xor (cond (eqb t.j j) (mul t.c (power mul x t.i)) 0) (column mul ts x j)

xor_drop : (p q r f : ℕ) → bit_xor (bit_xor p (bit_xor q r)) (bit_xor r f) ≡ bit_xor (bit_xor p q) f
xor_drop p q r f =
    xor_assoc p (bit_xor q r) (bit_xor r f)
    ∙ ap (λ z. bit_xor p z) (xor_assoc q r (bit_xor r f) ∙ ap (λ z. bit_xor q z) (xor_cancel r f))
    ∙ sym (xor_assoc p q f)

module _ (size : ℕ) (mul : ℕ → ℕ → ℕ) (field : IsField size mul) where
  horner_below : (f : ℕ → ℕ) → ((k : ℕ) → f k < size) → (n y : ℕ) → horner mul f n y < size
  horner_below f h zero y = h 0
  horner_below f h (suc n) y = xor_below size mul field (mul y (horner mul f n y)) (f (suc n)) (field.mul_below y (horner mul f n y)) (h (suc n))

  -- division by y + r
  horner-divide : (f : ℕ → ℕ) (r n y : ℕ) → horner mul f (suc n) y ≡ bit_xor (mul (bit_xor y r) (horner mul (λ k. horner mul f k r) n y)) (horner mul f (suc n) r)
  horner-divide f r zero y =
      sym (ap (λ z. bit_xor z (bit_xor (mul r (f 0)) (f 1))) (xor_mul size mul field y r (f 0))
      ∙ xor_assoc (mul y (f 0)) (mul r (f 0)) (bit_xor (mul r (f 0)) (f 1))
      ∙ ap (λ z. bit_xor (mul y (f 0)) z) (xor_cancel (mul r (f 0)) (f 1)))
  horner-divide f r (suc n) y =
      let G : ℕ = horner mul (λ k. horner mul f k r) n y in
      let B : ℕ = horner mul f (suc n) r in
      let P : ℕ = mul y (mul (bit_xor y r) G) in
      let left : mul y (horner mul f (suc n) y) ≡ bit_xor P (mul y B) =
      ap (λ z. mul y z) (horner-divide f r n y) ∙ field.mul_xor y (mul (bit_xor y r) G) B in
      let right : mul (bit_xor y r) (bit_xor (mul y G) B) ≡ bit_xor P (bit_xor (mul y B) (mul r B)) =
      field.mul_xor (bit_xor y r) (mul y G) B
      ∙ ap (λ z. bit_xor z (mul (bit_xor y r) B)) (mul_left_comm size mul field (bit_xor y r) y G)
      ∙ ap (λ z. bit_xor P z) (xor_mul size mul field y r B) in
      ap (λ z. bit_xor z (f (suc (suc n)))) left
      ∙ sym (ap (λ z. bit_xor z (bit_xor (mul r B) (f (suc (suc n))))) right ∙ xor_drop P (mul y B) (mul r B) (f (suc (suc n))))

  -- with more roots than its degree, the lead is 0
  pub lead-zero_from_roots : (n : ℕ) (f r : ℕ → ℕ) → ((k : ℕ) → f k < size) →
      ((i : ℕ) → i < suc n → r i < size) → ((i j : ℕ) → i < j → j < suc n → r i ≢ r j) →
      ((i : ℕ) → i < suc n → horner mul f n (r i) ≡ 0) → f 0 ≡ 0
  lead-zero_from_roots zero f r hf hr apart roots = roots 0 (omega arith)
  lead-zero_from_roots (suc n) f r hf hr apart roots =
      let s : ℕ = r (suc n) in
      let g : ℕ → ℕ = λ k. horner mul f k s in
      lead-zero_from_roots n g r (λ k. horner_below f hf k s) (λ i l. hr i (omega arith)) (λ i j l m. apart i j l (omega arith))
      (λ i l.
      let d : r i ≢ s = apart i (suc n) (omega arith) (omega arith) in
      let prod : mul (bit_xor (r i) s) (horner mul g n (r i)) ≡ 0 =
      sym (xor_zero_r (mul (bit_xor (r i) s) (horner mul g n (r i))))
      ∙ ap (λ z. bit_xor (mul (bit_xor (r i) s) (horner mul g n (r i))) z) (sym (roots (suc n) (omega arith)))
      ∙ sym (horner-divide f s n (r i)) ∙ roots i (omega arith) in
      elim (cases_eq (horner mul g n (r i)) 0) [
        | inl e ↦ e
        | inr e ↦ absurd (mul_below-nonzero size mul field (bit_xor (r i) s) (horner mul g n (r i))
            (xor_below size mul field (r i) s (hr i (omega arith)) (hr (suc n) (omega arith))) (horner_below g (λ k. horner_below f hf k s) n (r i))
            (λ z. d (xor_same (r i) s z)) e prod)
      ])

  horner-same : (f g : ℕ → ℕ) (n y : ℕ) → ((k : ℕ) → k ≤ n → f k ≡ g k) → horner mul f n y ≡ horner mul g n y
  horner-same f g zero y h = h 0 (omega arith)
  horner-same f g (suc n) y h =
      ap (λ z. bit_xor (mul y z) (f (suc n))) (horner-same f g n y (λ k l. h k (omega arith)))
      ∙ ap (λ z. bit_xor (mul y (horner mul g n y)) z) (h (suc n) (omega arith))

  horner-zero : (n y : ℕ) → horner mul (λ k. 0) n y ≡ 0
  horner-zero zero y = refl
  horner-zero (suc n) y = xor_zero_r (mul y (horner mul (λ k. 0) n y)) ∙ ap (λ z. mul y z) (horner-zero n y) ∙ mul-zero size mul field y

  horner-xor : (f g : ℕ → ℕ) (n y : ℕ) → horner mul (λ k. bit_xor (f k) (g k)) n y ≡ bit_xor (horner mul f n y) (horner mul g n y)
  horner-xor f g zero y = refl
  horner-xor f g (suc n) y =
      ap (λ z. bit_xor (mul y z) (bit_xor (f (suc n)) (g (suc n)))) (horner-xor f g n y)
      ∙ ap (λ z. bit_xor z (bit_xor (f (suc n)) (g (suc n)))) (field.mul_xor y (horner mul f n y) (horner mul g n y))
      ∙ xor_mid (mul y (horner mul f n y)) (mul y (horner mul g n y)) (f (suc n)) (g (suc n))

  -- one term
  horner-one : (n j c y : ℕ) → j ≤ n → c < size → horner mul (λ k. cond (eqb j (n - k)) c 0) n y ≡ mul c (power mul y j)
  horner-one zero j c y l h =
      let z : j ≡ 0 = omega arith in
      cond-true (eqb j (0 - 0)) c 0 (eq-eqb j (0 - 0) (omega arith))
      ∙ sym (mul_one size mul field c h) ∙ ap (λ q. mul c (power mul y q)) (sym z)
  horner-one (suc n) zero c y l h =
      let front : horner mul (λ k. cond (eqb 0 (suc n - k)) c 0) n y ≡ 0 =
      horner-same (λ k. cond (eqb 0 (suc n - k)) c 0) (λ k. 0) n y (λ k m. cond-false (eqb 0 (suc n - k)) c 0 (ne_eqb 0 (suc n - k) (λ e. absurd (omega arith)))) ∙ horner-zero n y in
      ap (λ z. bit_xor (mul y z) (cond (eqb 0 (suc n - suc n)) c 0)) front
      ∙ ap (λ z. bit_xor z (cond (eqb 0 (suc n - suc n)) c 0)) (mul-zero size mul field y)
      ∙ cond-true (eqb 0 (suc n - suc n)) c 0 (eq-eqb 0 (suc n - suc n) (omega arith))
      ∙ sym (mul_one size mul field c h)
  horner-one (suc n) (suc j) c y l h =
      let front : horner mul (λ k. cond (eqb (suc j) (suc n - k)) c 0) n y ≡ mul c (power mul y j) =
      horner-same (λ k. cond (eqb (suc j) (suc n - k)) c 0) (λ k. cond (eqb j (n - k)) c 0) n y
      (λ k m. elim (cases_eq j (n - k)) [
        | inl e ↦ cond-true (eqb (suc j) (suc n - k)) c 0 (eq-eqb (suc j) (suc n - k) (omega arith)) ∙ sym (cond-true (eqb j (n - k)) c 0 (eq-eqb j (n - k) e))
        | inr e ↦ cond-false (eqb (suc j) (suc n - k)) c 0 (ne_eqb (suc j) (suc n - k) (λ f. e (omega arith))) ∙ sym (cond-false (eqb j (n - k)) c 0 (ne_eqb j (n - k) e))
      ])
      ∙ horner-one n j c y (omega arith) h in
      ap (λ z. bit_xor (mul y z) (cond (eqb (suc j) (suc n - suc n)) c 0)) front
      ∙ ap (λ z. bit_xor (mul y (mul c (power mul y j))) z) (cond-false (eqb (suc j) (suc n - suc n)) c 0 (ne_eqb (suc j) (suc n - suc n) (λ e. absurd (omega arith))))
      ∙ xor_zero_r (mul y (mul c (power mul y j)))
      ∙ mul_left_comm size mul field y c (power mul y j)

  pub value-by_columns : (n : ℕ) (ts : List Term) (x y : ℕ) → AllByRecursion (λ t. t.j ≤ n) ts → value mul ts x y ≡ horner mul (λ k. column mul ts x (n - k)) n y
  value-by_columns n [] x y h = sym (horner-zero n y)
  value-by_columns n (t ∷ ts) x y h =
      let c : ℕ = mul t.c (power mul x t.i) in
      ap (λ z. bit_xor z (value mul ts x y)) (sym (field.mul_assoc t.c (power mul x t.i) (power mul y t.j)) ∙ sym (horner-one n t.j c y h.0 (field.mul_below t.c (power mul x t.i))))
      ∙ ap (λ z. bit_xor (horner mul (λ k. cond (eqb t.j (n - k)) c 0) n y) z) (value-by_columns n ts x y h.1)
      ∙ sym (horner-xor (λ k. cond (eqb t.j (n - k)) c 0) (λ k. column mul ts x (n - k)) n y)

  pub column_below : (ts : List Term) (x j : ℕ) → column mul ts x j < size
  column_below [] x j = let h : 1 < size = field.one_below in omega arith
  column_below (t ∷ ts) x j =
      let h : 1 < size = field.one_below in
      xor_below size mul field (cond (eqb t.j j) (mul t.c (power mul x t.i)) 0) (column mul ts x j)
      (cond_both (eqb t.j j) (mul t.c (power mul x t.i)) 0 (λ z. z < size) (λ e. field.mul_below t.c (power mul x t.i)) (λ e. omega arith))
      (column_below ts x j)

  -- in the column of y^a stands y^a alone
  pub column-lead : (a b : ℕ) → 0 < a → 0 < b → (ts : List Term) (x : ℕ) → AllByRecursion (λ t. a * t.i + b * t.j ≤ a * b) ts → AllByRecursion (λ t. t.c < size) ts → column mul ts x a ≡ coefficient ts 0 a
  column-lead a b pa pb [] x h k = refl
  column-lead a b pa pb (t ∷ ts) x h k =
      let le : a * t.i + b * t.j ≤ a * b = h.0 in
      let head : cond (eqb t.j a) (mul t.c (power mul x t.i)) 0 ≡ cond (eqb t.i 0 && eqb t.j a) t.c 0 =
      elim (cases_eq t.j a) [
        | inl e ↦
            let be : b * t.j ≡ b * a = ap (λ z. b * z) e in
            let i_zero : t.i ≡ 0 = elim (cases_eq t.i 0) [ inl z ↦ z | inr z ↦ let p : a * 1 ≤ a * t.i = mul-le-mul_left a (omega arith) in absurd (omega arith) ] in
            cond-true (eqb t.j a) (mul t.c (power mul x t.i)) 0 (eq-eqb t.j a e)
            ∙ ap (λ z. mul t.c (power mul x z)) i_zero
            ∙ mul_one size mul field t.c k.0
            ∙ sym (cond-true (eqb t.i 0 && eqb t.j a) t.c 0 (and_from (eqb t.i 0) (eqb t.j a) (eq-eqb t.i 0 i_zero) (eq-eqb t.j a e)))
        | inr e ↦
            cond-false (eqb t.j a) (mul t.c (power mul x t.i)) 0 (ne_eqb t.j a e)
            ∙ sym (cond_both (eqb t.i 0 && eqb t.j a) t.c 0 (λ z. z ≡ 0) (λ q. absurd (e (eqb-true t.j a (and_parts (eqb t.i 0) (eqb t.j a) q).1))) (λ q. refl))
      ] in
      ap (λ z. bit_xor z (column mul ts x a)) head ∙ ap (λ z. bit_xor (cond (eqb t.i 0 && eqb t.j a) t.c 0) z) (column-lead a b pa pb ts x h.1 k.1)
