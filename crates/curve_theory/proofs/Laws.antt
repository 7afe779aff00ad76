-- The laws of the functions of a curve, by index
use Rattle.std.proofs.lemmas.Bool.{cases_Bool, cond-true, cond-false}
use Rattle.std.proofs.Common.{◌≡◌, ◌≢◌, ℕ, zero, suc, ◌+◌, ◌<◌, ◌≤◌, Bool, cond, List, sym, ◌∙◌, ap, subst, refl, inl, inr, arith, bit_xor, Some}
use Rattle.std.proofs.lemmas.Nat.{xor_comm}
use Rattle.std.specs.Int.Bits.{xor_zero_r}
use Rattle.field_theory.specs.Field.{IsField}
use Rattle.field_theory.specs.Sums.{xor_sum}
use Rattle.curve_theory.specs.Curve.{Term, IsEquation}
use Rattle.field_theory.specs.Sums.{count_below}
use Rattle.curve_theory.specs.Semigroup.{is_member, at_place, function_count, weight_at, place_of, sum_of}
use Rattle.curve_theory.specs.Normal.{function_value, product_coefficient, lead_of, curve_function}
use Rattle.curve_theory.specs.Functions.{IsFunctionProduct}
use Rattle.field_theory.proofs.Sums.{sum-same, zero-mul}
use Rattle.field_theory.proofs.Counts.{count_below-yes, count_below-no}
use Rattle.curve_theory.proofs.Places.{at_place-count, IsFunction, weight_at-is, IsSum, sum_of-some}
use Rattle.curve_theory.proofs.Product.{IsProduct, product_coefficient-is}

-- a sum over the places of the numbers with p is the sum over these numbers
pub sum-at_place : (n m : ℕ) (p : ℕ → Bool) (g : ℕ → ℕ) → n ≤ m → xor_sum (count_below n p) (λ k. g (at_place m p k)) ≡ xor_sum n (λ w. cond (p w) (g w) 0)
sum-at_place zero m p g l = refl
sum-at_place (suc n) m p g l =
    let ih : xor_sum (count_below n p) (λ k. g (at_place m p k)) ≡ xor_sum n (λ w. cond (p w) (g w) 0) = sum-at_place n m p g (omega arith) in
    elim (cases_Bool (p n)) [
      | inl e ↦
          let c : count_below (suc n) p ≡ suc (count_below n p) = count_below-yes n p e ∙ omega arith in
          ap (λ q. xor_sum q (λ k. g (at_place m p k))) c
          ∙ ap (λ z. bit_xor z (g (at_place m p (count_below n p)))) ih
          ∙ ap (λ z. bit_xor (xor_sum n (λ w. cond (p w) (g w) 0)) (g z)) (at_place-count m p n (omega arith) e)
          ∙ ap (λ z. bit_xor (xor_sum n (λ w. cond (p w) (g w) 0)) z) (sym (cond-true (p n) (g n) 0 e))
      | inr e ↦
          ap (λ q. xor_sum q (λ k. g (at_place m p k))) (count_below-no n p e)
          ∙ ih
          ∙ sym (xor_zero_r (xor_sum n (λ w. cond (p w) (g w) 0)))
          ∙ ap (λ z. bit_xor (xor_sum n (λ w. cond (p w) (g w) 0)) z) (sym (cond-false (p n) (g n) 0 e))
    ]

module _ (size : ℕ) (mul : ℕ → ℕ → ℕ) (field : IsField size mul) (a b : ℕ) (ts : List Term) (curve : IsEquation size a b ts) (top : ℕ) where
  pub product_by_index : (i j s : ℕ) → i < function_count a b top → j < function_count a b top → sum_of a b top i j ≡ Some s →
      IsFunctionProduct size mul a b ts top i j s
  unfolding place_of weight_at function_count
  product_by_index i j s li lj h =
      let u : ℕ = weight_at a b top i in
      let v : ℕ = weight_at a b top j in
      let C : ℕ → ℕ = product_coefficient size mul a b ts u v in
      let fi : IsFunction a b top i u = weight_at-is a b top i li in
      let fj : IsFunction a b top j v = weight_at-is a b top j lj in
      let sum : IsSum a b top i j s = sum_of-some a b top i j s curve.a_above li lj h in
      let fs : IsFunction a b top s (weight_at a b top s) = weight_at-is a b top s sum.below in
      let prod : IsProduct size mul field a b ts curve u v C = product_coefficient-is size mul field a b ts curve u v fi.member fj.member in
      let ws : weight_at a b top s ≡ u + v = sum.weight_is in
      let count : count_below (u + v) (is_member a b) ≡ s = ap (place_of a b) (sym ws) ∙ fs.place in
      let low : u + v ≤ top = subst (λ (z : ℕ). z ≤ top) ws fs.within in
      record {
        symbols = prod.symbol;
        lead_symbol = subst (λ (z : ℕ). z < size) prod.lead (prod.symbol (u + v));
        lead_not_zero = subst (λ (z : ℕ). z ≢ 0) prod.lead prod.lead_nonzero;
        product = λ x y on.
            let F : ℕ → ℕ = λ w. function_value mul a b w x y in
            prod.value_is x y on
            ∙ ap (λ z. bit_xor z (mul (C (u + v)) (F (u + v))))
            (sum-same (u + v) (λ w. mul (C w) (F w)) (λ w. cond (is_member a b w) (mul (C w) (F w)) 0)
            (λ w l. elim (cases_Bool (is_member a b w)) [
              | inl e ↦ sym (cond-true (is_member a b w) (mul (C w) (F w)) 0 e)
              | inr e ↦ ap (λ z. mul z (F w)) (prod.members w e) ∙ zero-mul size mul field (F w) ∙ sym (cond-false (is_member a b w) (mul (C w) (F w)) 0 e)
            ])
            ∙ sym (sum-at_place (u + v) (top + 1) (is_member a b) (λ w. mul (C w) (F w)) (omega arith))
            ∙ ap (λ q. xor_sum q (λ k. mul (C (weight_at a b top k)) (curve_function mul a b top k x y))) count)
            ∙ ap (λ z. bit_xor (xor_sum s (λ k. mul (C (weight_at a b top k)) (curve_function mul a b top k x y))) (mul z (F (u + v)))) prod.lead
            ∙ ap (λ z. bit_xor (xor_sum s (λ k. mul (C (weight_at a b top k)) (curve_function mul a b top k x y))) (mul (lead_of size mul a b ts u v) (F z))) (sym ws)
            ∙ xor_comm (xor_sum s (λ k. mul (C (weight_at a b top k)) (curve_function mul a b top k x y))) (mul (lead_of size mul a b ts u v) (F (weight_at a b top s)));
      }
