-- Rows that stay independent: some of those that have dual lists, and rows with their entries in the opposite order
use Rattle.std.proofs.lemmas.Bool.{cases_eq}
use Rattle.std.proofs.Common.{◌≡◌, ℕ, ◌-◌, ◌<◌, sym, ◌∙◌, ap, refl, inl, inr, arith}
use Rattle.field_theory.specs.Field.{IsField}
use Rattle.field_theory.specs.Sums.{xor_sum, unit}
use Rattle.field_theory.proofs.Sums.{sum-same, sum-zero, zero-mul, mul_one}
use Rattle.linear_theory.specs.Linear.{dot, combine, AreIndependent, SameSpan, IsDual, IsReduced}
use Rattle.linear_theory.proofs.Spans.{put-same, put-other}
use Rattle.linear_theory.proofs.Duals.{sum_unit, dot_combine}
use Rattle.linear_theory.proofs.Exchange.{independent_iff_rank}
use Rattle.linear_theory.proofs.Steps.{span_rank}
use Rattle.linear_theory.proofs.Reduced.{reduced_rank}

unit_picked : (picks : ℕ → ℕ) (r i j : ℕ) → i < r → j < r → ((t u : ℕ) → t < r → u < r → picks t ≡ picks u → t ≡ u) → unit (picks i) (picks j) ≡ unit i j
unit_picked picks r i j li lj apart = elim (cases_eq j i) [
  | inl e ↦ ap (λ (k : ℕ). unit (picks i) (picks k)) e ∙ put-same (λ q. 0) (picks i) 1 ∙ sym (put-same (λ q. 0) i 1) ∙ ap (unit i) (sym e)
  | inr d ↦ put-other (λ q. 0) (picks i) 1 (picks j) (λ e. d (apart j i lj li e)) ∙ sym (put-other (λ q. 0) i 1 j d)
]

module _ (size : ℕ) (mul : ℕ → ℕ → ℕ) (field : IsField size mul) where
  pub independent_picks :
      (n : ℕ) (rows duals : ℕ → ℕ → ℕ) (picks : ℕ → ℕ) (r : ℕ) → IsDual mul n rows duals → ((t : ℕ) → t < r → picks t < n)
      → ((t u : ℕ) → t < r → u < r → picks t ≡ picks u → t ≡ u) → AreIndependent size mul n (λ t. rows (picks t)) r
  independent_picks n rows duals picks r h within apart = record {
    only_zero = λ c s z j l.
        let e : dot mul n (λ p. combine mul r c (λ t. rows (picks t)) p) (duals (picks j)) ≡ xor_sum r (λ i. mul (c i) (dot mul n (rows (picks i)) (duals (picks j)))) =
        dot_combine size mul field n (λ t. rows (picks t)) r c (λ p. combine mul r c (λ t. rows (picks t)) p) (duals (picks j)) (λ p m. refl) in
        let f : xor_sum r (λ i. mul (c i) (dot mul n (rows (picks i)) (duals (picks j)))) ≡ xor_sum r (λ i. mul (c i) (unit i j)) =
        sum-same r (λ i. mul (c i) (dot mul n (rows (picks i)) (duals (picks j)))) (λ i. mul (c i) (unit i j))
        (λ i m. ap (λ y. mul (c i) y) (h.products (picks i) (picks j) (within i m) (within j l) ∙ unit_picked picks r i j m l apart)) in
        let g : dot mul n (λ p. combine mul r c (λ t. rows (picks t)) p) (duals (picks j)) ≡ 0 =
        sum-zero n (λ p. mul (combine mul r c (λ t. rows (picks t)) p) (duals (picks j) p)) (λ p m. ap (λ y. mul y (duals (picks j) p)) (z p m) ∙ zero-mul size mul field (duals (picks j) p)) in
        sym (mul_one size mul field (c j) (s j l)) ∙ sym (sum_unit size mul field r c j l) ∙ sym f ∙ sym e ∙ g;
  }

-- rows whose entries below n are those of others in the opposite order
pub independent_mirror :
    {size : ℕ} {mul : ℕ → ℕ → ℕ} {n : ℕ} {rows : ℕ → ℕ → ℕ} {r : ℕ} (others : ℕ → ℕ → ℕ) → ((i : ℕ) → i < r → (q : ℕ) → q < n → others i q ≡ rows i (n - 1 - q))
    → AreIndependent size mul n rows r → AreIndependent size mul n others r
independent_mirror {mul = mul} {n = n} {rows = rows} {r = r} others e h = record {
  only_zero = λ c s z. h.only_zero c s
      (λ j l. (let back : n - 1 - (n - 1 - j) ≡ j = omega arith in
      let within : n - 1 - j < n = omega arith in
      sym (sum-same r (λ i. mul (c i) (others i (n - 1 - j))) (λ i. mul (c i) (rows i j))
      (λ i m. ap (λ y. mul (c i) y) (e i m (n - 1 - j) within ∙ ap (rows i) back)))
      ∙ z (n - 1 - j) within));
}

-- the reduced form of independent rows, mirrored, has a pivot in each
pub pivots_are_all :
    (size : ℕ) (mul : ℕ → ℕ → ℕ) → IsField size mul → (n h k : ℕ) (rows mirror e : ℕ → ℕ → ℕ) → ((i j : ℕ) → mirror i j < size) → ((i j : ℕ) → e i j < size)
    → AreIndependent size mul n rows h → ((i : ℕ) → i < h → (q : ℕ) → q < n → mirror i q ≡ rows i (n - 1 - q)) → SameSpan mul n mirror h e h → IsReduced n e h k → k ≡ h
pivots_are_all size mul field n h k rows mirror e below e_below independent mirrored span reduced =
    sym (reduced_rank size mul field n e h k reduced)
    ∙ sym (span_rank size mul field below e_below span)
    ∙ (independent_iff_rank size mul field n mirror h below).0 (independent_mirror mirror mirrored independent)
