-- Sums in a field of characteristic 2
use Rattle.std.proofs.lemmas.Bool.{cases_eq}
use Rattle.std.proofs.Common.{◌≡◌, ◌≢◌, ◌⊎◌, ℕ, zero, suc, ◌<◌, ◌^◌, sym, ◌∙◌, ap, subst, refl, inl, inr, arith, bit_xor}
use Rattle.std.specs.Int.Bits.{xor_assoc, xor_self, xor_zero_r}
use Rattle.std.proofs.lemmas.Nat.{xor_comm, xor_lt}
use Rattle.field_theory.specs.Field.{IsField}
use Rattle.field_theory.specs.Sums.{xor_sum}

pub xor_left_comm : (a b c : ℕ) → bit_xor a (bit_xor b c) ≡ bit_xor b (bit_xor a c)
xor_left_comm a b c = sym (xor_assoc a b c) ∙ ap (λ x. bit_xor x c) (xor_comm a b) ∙ xor_assoc b a c

pub xor_cancel : (a b : ℕ) → bit_xor a (bit_xor a b) ≡ b
xor_cancel a b = sym (xor_assoc a a b) ∙ ap (λ x. bit_xor x b) (xor_self a)

-- two sums of two
pub xor_mid : (a b c d : ℕ) → bit_xor (bit_xor a b) (bit_xor c d) ≡ bit_xor (bit_xor a c) (bit_xor b d)
xor_mid a b c d = simp (xor_assoc, xor_left_comm)

pub xor_same : (a b : ℕ) → bit_xor a b ≡ 0 → a ≡ b
xor_same a b e = sym (xor_zero_r a) ∙ ap (λ x. bit_xor a x) (sym (xor_self b)) ∙ sym (xor_assoc a b b) ∙ ap (λ x. bit_xor x b) e

pub sum-same : (n : ℕ) (f g : ℕ → ℕ) → ((i : ℕ) → i < n → f i ≡ g i) → xor_sum n f ≡ xor_sum n g
sum-same zero f g h = refl
sum-same (suc n) f g h =
    let e : xor_sum n f ≡ xor_sum n g = sum-same n f g (λ i l. h i (omega arith)) in
    let d : f n ≡ g n = h n (omega arith) in
    cc

pub sum-xor : (n : ℕ) (f g : ℕ → ℕ) → xor_sum n (λ i. bit_xor (f i) (g i)) ≡ bit_xor (xor_sum n f) (xor_sum n g)
sum-xor zero f g = refl
sum-xor (suc n) f g =
    ap (λ x. bit_xor x (bit_xor (f n) (g n))) (sum-xor n f g) ∙ xor_mid (xor_sum n f) (xor_sum n g) (f n) (g n)

pub sum-zero : (n : ℕ) (f : ℕ → ℕ) → ((i : ℕ) → i < n → f i ≡ 0) → xor_sum n f ≡ 0
sum-zero zero f h = refl
sum-zero (suc n) f h =
    let e : xor_sum n f ≡ 0 = sum-zero n f (λ i l. h i (omega arith)) in
    let d : f n ≡ 0 = h n (omega arith) in
    ap (λ x. bit_xor x (f n)) e ∙ d

-- two sums in either order
pub sum-swap : (m n : ℕ) (f : ℕ → ℕ → ℕ) → xor_sum m (λ i. xor_sum n (λ j. f i j)) ≡ xor_sum n (λ j. xor_sum m (λ i. f i j))
sum-swap zero n f = sym (sum-zero n (λ j. 0) (λ i l. refl))
sum-swap (suc m) n f =
    ap (λ x. bit_xor x (xor_sum n (λ j. f m j))) (sum-swap m n f)
    ∙ sym (sum-xor n (λ j. xor_sum m (λ i. f i j)) (λ j. f m j))

-- a sum of which only the place k counts
sum-only_step : (n : ℕ) (f : ℕ → ℕ) (k : ℕ) → ((i : ℕ) → i < suc n → i ≢ k → f i ≡ 0) → (k < n → xor_sum n f ≡ f k) → (k ≡ n) ⊎ (k < n) → xor_sum (suc n) f ≡ f k
sum-only_step n f k h ih (inl e) = ap (λ x. bit_xor x (f n)) (sum-zero n f (λ i m. h i (omega arith) (omega arith))) ∙ ap f (sym e)
sum-only_step n f k h ih (inr d) = ap (λ x. bit_xor x (f n)) (ih d) ∙ ap (λ x. bit_xor (f k) x) (h n (omega arith) (omega arith)) ∙ xor_zero_r (f k)

pub eq_or_below : (k n : ℕ) → k < suc n → (k ≡ n) ⊎ (k < n)
eq_or_below k n l = elim (cases_eq k n) [ inl e ↦ inl e | inr d ↦ inr (omega arith) ]

pub sum-only : (n : ℕ) (f : ℕ → ℕ) (k : ℕ) → k < n → ((i : ℕ) → i < n → i ≢ k → f i ≡ 0) → xor_sum n f ≡ f k
sum-only zero f k l h = absurd (omega arith)
sum-only (suc n) f k l h =
    sum-only_step n f k h (λ m. sum-only n f k m (λ i u. h i (omega arith))) (eq_or_below k n l)

module _ (size : ℕ) (mul : ℕ → ℕ → ℕ) (field : IsField size mul) where
  pub mul-zero : (x : ℕ) → mul x 0 ≡ 0
  mul-zero x = field.mul_xor x 0 0 ∙ xor_self (mul x 0)

  pub zero-mul : (x : ℕ) → mul 0 x ≡ 0
  zero-mul x = field.mul_comm 0 x ∙ mul-zero x

  pub xor_mul : (x y z : ℕ) → mul (bit_xor x y) z ≡ bit_xor (mul x z) (mul y z)
  xor_mul x y z = field.mul_comm (bit_xor x y) z ∙ field.mul_xor z x y ∙ ap (λ w. bit_xor w (mul z y)) (field.mul_comm z x) ∙ ap (λ w. bit_xor (mul x z) w) (field.mul_comm z y)

  pub mul_left_comm : (x y z : ℕ) → mul x (mul y z) ≡ mul y (mul x z)
  mul_left_comm x y z = sym (field.mul_assoc x y z) ∙ ap (λ w. mul w z) (field.mul_comm x y) ∙ field.mul_assoc y x z

  pub xor_below : (x y : ℕ) → x < size → y < size → bit_xor x y < size
  xor_below x y l m =
      let h : bit_xor x y < 2 ^ field.bits = xor_lt field.bits x y (subst (λ s. x < s) field.size_is l) (subst (λ s. y < s) field.size_is m) in
      subst (λ s. bit_xor x y < s) (sym field.size_is) h

  pub zero_below : 0 < size
  zero_below = let h : 1 < size = field.one_below in omega arith

  pub sum_below : (n : ℕ) (f : ℕ → ℕ) → ((i : ℕ) → i < n → f i < size) → xor_sum n f < size
  sum_below zero f h = zero_below
  sum_below (suc n) f h = xor_below (xor_sum n f) (f n) (sum_below n f (λ i l. h i (omega arith))) (h n (omega arith))

  pub mul-sum : (x n : ℕ) (f : ℕ → ℕ) → mul x (xor_sum n f) ≡ xor_sum n (λ i. mul x (f i))
  mul-sum x zero f = mul-zero x
  mul-sum x (suc n) f = field.mul_xor x (xor_sum n f) (f n) ∙ ap (λ w. bit_xor w (mul x (f n))) (mul-sum x n f)

  pub sum-mul : (n : ℕ) (f : ℕ → ℕ) (x : ℕ) → mul (xor_sum n f) x ≡ xor_sum n (λ i. mul (f i) x)
  sum-mul n f x = field.mul_comm (xor_sum n f) x ∙ mul-sum x n f ∙ sum-same n (λ i. mul x (f i)) (λ i. mul (f i) x) (λ i l. field.mul_comm x (f i))

  -- an element times 1, on either side, times anything: the factor's rest by the field does not count
  pub one_mul-mul : (x y : ℕ) → mul (mul 1 x) y ≡ mul x y
  one_mul-mul x y = field.mul_assoc 1 x y ∙ field.one_mul (mul x y) (field.mul_below x y)

  pub mul_one : (x : ℕ) → x < size → mul x 1 ≡ x
  mul_one x l = field.mul_comm x 1 ∙ field.one_mul x l

  pub mul_below-nonzero : (x y : ℕ) → x < size → y < size → x ≢ 0 → y ≢ 0 → mul x y ≢ 0
  mul_below-nonzero x y l m h k e =
      let w : (z : ℕ) × (z < size) × (mul x z ≡ 1) = field.inverse x l h in
      let c : mul w.0 (mul x y) ≡ y = sym (field.mul_assoc w.0 x y) ∙ ap (λ q. mul q y) (field.mul_comm w.0 x ∙ w.2) ∙ field.one_mul y m in
      k (sym c ∙ ap (λ q. mul w.0 q) e ∙ mul-zero w.0)
