-- Products of vectors, and cancelling, in a field of characteristic 2
use Rattle.std.proofs.Common.{◌≡◌, ◌≢◌, ◌⊎◌, ℕ, zero, suc, ◌<◌, sym, ◌∙◌, ap, inl, inr, arith}
use Rattle.std.proofs.lemmas.Bool.{cases_eq}
use Rattle.field_theory.specs.Field.{IsField}
use Rattle.field_theory.proofs.Sums.{mul-zero, eq_or_below}

-- the first number below n at which f is not 0
pub first_or_none : (n : ℕ) (f : ℕ → ℕ) → ((k : ℕ) × (k < n) × (f k ≢ 0) × ((m : ℕ) → m < k → f m ≡ 0)) ⊎ ((k : ℕ) → k < n → f k ≡ 0)
first_or_none zero f = inr (λ k l. absurd (omega arith))
first_or_none (suc n) f = elim (first_or_none n f) [
  | inl w ↦ inl (w.0, (let l : w.0 < n = w.1 in omega arith), w.2, w.3)
  | inr z ↦ elim (cases_eq (f n) 0) [
    | inl e ↦ inr (λ k l. elim (eq_or_below k n l) [ inl d ↦ ap f d ∙ e | inr m ↦ z k m ])
    | inr d ↦ inl (n, omega arith, d, z)
  ]
]

module _ (size : ℕ) (mul : ℕ → ℕ → ℕ) (field : IsField size mul) where
  pub mul_cancel : (x y z : ℕ) → x < size → x ≢ 0 → y < size → z < size → mul x y ≡ mul x z → y ≡ z
  mul_cancel x y z lx d ly lz e =
      let w : (u : ℕ) × (u < size) × (mul x u ≡ 1) = field.inverse x lx d in
      let back : (v : ℕ) → v < size → mul w.0 (mul x v) ≡ v =
      λ v l. sym (field.mul_assoc w.0 x v) ∙ ap (λ u. mul u v) (field.mul_comm w.0 x ∙ w.2) ∙ field.one_mul v l in
      sym (back y ly) ∙ ap (λ u. mul w.0 u) e ∙ back z lz

  pub mul_not_zero : (x y : ℕ) → x < size → x ≢ 0 → y < size → 0 < size → y ≢ 0 → mul x y ≢ 0
  mul_not_zero x y lx dx ly l0 dy e = dy (mul_cancel x y 0 lx dx ly l0 (e ∙ sym (mul-zero size mul field x)))
