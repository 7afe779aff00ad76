-- The pairs of indices with a sum are the pairs of members with the sum of the weights
use Rattle.std.proofs.Common.{◌≡◌, ℕ, zero, suc, ◌+◌, ◌-◌, ◌<◌, ◌≤◌, Bool, true, false, cond, leb, ◌&&◌, sym, ◌∙◌, ap, subst, refl, inl, inr, arith, Option, Some, None}
use Rattle.std.proofs.lemmas.Bool.{cases_Bool, and_parts, and_from, and_left, and_right, leb-true, le-leb, lt-leb, eqb-true, eq-eqb, cond-true, cond-false, both_ways, false_from_ne_true}
use Rattle.field_theory.specs.Sums.{total, one_if, count_below, count_pairs}
use Rattle.field_theory.proofs.Totals.{total_same}
use Rattle.curve_theory.specs.Semigroup.{is_member, at_place, function_count, weight_at, place_of, sum_of, is_pair, pairs}
use Rattle.curve_theory.specs.Functions.{answers}
use Rattle.field_theory.proofs.Counts.{count_below-yes, count_below-no, count_below-none, count_below-one, count_below-past, count_below-same, total-tests}
use Rattle.curve_theory.proofs.Places.{at_place-count, IsFunction, weight_at-is, weight_at-place, place_of-below, sum_of-some, sum_of-from}

total-at_place : (n m : ℕ) (p : ℕ → Bool) (g : ℕ → ℕ) → n ≤ m → total (count_below n p) (λ k. g (at_place m p k)) ≡ total n (λ w. cond (p w) (g w) 0)
total-at_place zero m p g l = refl
total-at_place (suc n) m p g l =
    let ih : total (count_below n p) (λ k. g (at_place m p k)) ≡ total n (λ w. cond (p w) (g w) 0) = total-at_place n m p g (omega arith) in
    elim (cases_Bool (p n)) [
      | inl e ↦
          let c : count_below (suc n) p ≡ suc (count_below n p) = count_below-yes n p e ∙ omega arith in
          ap (λ q. total q (λ k. g (at_place m p k))) c
          ∙ ap (λ z. z + g (at_place m p (count_below n p))) ih
          ∙ ap (λ z. total n (λ w. cond (p w) (g w) 0) + g z) (at_place-count m p n (omega arith) e)
          ∙ ap (λ z. total n (λ w. cond (p w) (g w) 0) + z) (sym (cond-true (p n) (g n) 0 e))
      | inr e ↦
          let z : total n (λ w. cond (p w) (g w) 0) ≡ total n (λ w. cond (p w) (g w) 0) + 0 = omega arith in
          ap (λ q. total q (λ k. g (at_place m p k))) (count_below-no n p e) ∙ ih ∙ z
          ∙ ap (λ z. total n (λ w. cond (p w) (g w) 0) + z) (sym (cond-false (p n) (g n) 0 e))
    ]

answers-true : (o : Option ℕ) (s : ℕ) → answers o s ≡ true → o ≡ Some s
answers-true None s h = absurd (both_ways false refl h)
answers-true (Some m) s h = ap (λ (z : ℕ). Some z) (eqb-true m s h)

module _ (a b top : ℕ) (pos : 0 < a) (s : ℕ) (within : s < function_count a b top) where
  W : ℕ
  W = weight_at a b top s

  fits : ℕ → Bool
  fits u = leb u W && is_member a b (W - u)

  one_each : (i : ℕ) → i < function_count a b top → count_below (function_count a b top) (λ j. answers (sum_of a b top i j) s) ≡ cond (fits (weight_at a b top i)) 1 0
  unfolding fits W
  one_each i l =
      let n : ℕ = function_count a b top in
      let u : ℕ = weight_at a b top i in
      let w : ℕ = weight_at a b top s in
      let fs : IsFunction a b top s w = weight_at-is a b top s within in
      let p : ℕ → Bool = λ j. answers (sum_of a b top i j) s in
      let sum_is : (j : ℕ) → j < n → p j ≡ true → w ≡ u + weight_at a b top j = λ j m h.
      (sum_of-some a b top i j s pos l m (answers-true (sum_of a b top i j) s h)).weight_is in
      elim (cases_Bool (leb u w && is_member a b (w - u))) [
        | inl e ↦
            let both : (leb u w ≡ true) × (is_member a b (w - u) ≡ true) = and_parts (leb u w) (is_member a b (w - u)) e in
            let le : u ≤ w = leb-true u w both.0 in
            let low : w ≤ top = fs.within in
            let t : ℕ = place_of a b (w - u) in
            let t_below : t < n = place_of-below a b top (w - u) (omega arith) both.1 in
            let t_weight : weight_at a b top t ≡ w - u = weight_at-place a b top (w - u) (omega arith) both.1 in
            let total : u + weight_at a b top t ≡ w = omega arith in
            let at : p t ≡ true =
            ap (λ o. answers o s) (sum_of-from a b top i t (omega arith) ∙ ap (λ (z : ℕ). Some (place_of a b z)) total ∙ ap (λ (z : ℕ). Some z) fs.place)
            ∙ eq-eqb s s refl in
            count_below-one n p t t_below at
            (λ k m d. false_from_ne_true (p k) (λ h.
            let fk : IsFunction a b top k (weight_at a b top k) = weight_at-is a b top k m in
            let ft : IsFunction a b top t (weight_at a b top t) = weight_at-is a b top t t_below in
            let wk : w ≡ u + weight_at a b top k = sum_is k m h in
            let same : weight_at a b top k ≡ weight_at a b top t = omega arith in
            d (sym fk.place ∙ ap (place_of a b) same ∙ ft.place)))
            ∙ sym (cond-true (leb u w && is_member a b (w - u)) 1 0 e)
        | inr e ↦
            count_below-none n p (λ k m. false_from_ne_true (p k) (λ h.
            let fk : IsFunction a b top k (weight_at a b top k) = weight_at-is a b top k m in
            let wk : w ≡ u + weight_at a b top k = sum_is k m h in
            let rest : weight_at a b top k ≡ w - u = omega arith in
            both_ways (leb u w && is_member a b (w - u)) e
            (and_from (leb u w) (is_member a b (w - u)) (le-leb u w (omega arith)) (subst (λ (z : ℕ). is_member a b z ≡ true) rest fk.member))))
            ∙ sym (cond-false (leb u w && is_member a b (w - u)) 1 0 e)
      ]

  cond_cond : (p q : Bool) → ◌≡◌ {A = ℕ} (cond p (cond q 1 0) 0) (cond (p && q) 1 0)
  cond_cond true q = refl
  cond_cond false q = refl

  pub pairs-by_weight : count_pairs (function_count a b top) (λ i j. answers (sum_of a b top i j) s) ≡ pairs a b (weight_at a b top s)
  unfolding count_pairs pairs is_pair fits W weight_at function_count
  pairs-by_weight =
      let w : ℕ = weight_at a b top s in
      let M : ℕ → Bool = is_member a b in
      let F : ℕ → Bool = λ u. leb u w && is_member a b (w - u) in
      let low : w ≤ top = (weight_at-is a b top s within).within in
      let e : top + 1 ≡ (top - w) + (w + 1) = omega arith in
      let n : ℕ = function_count a b top in
      total_same n (λ i. total n (λ j. one_if (answers (sum_of a b top i j) s))) (λ i. cond (F (weight_at a b top i)) 1 0)
      (λ i l. total-tests n (λ j. answers (sum_of a b top i j) s) ∙ one_each i l)
      ∙ total-at_place (top + 1) (top + 1) M (λ u. cond (F u) 1 0) (omega arith)
      ∙ total_same (top + 1) (λ u. cond (M u) (cond (F u) 1 0) 0) (λ u. cond (M u && F u) 1 0) (λ u l. cond_cond (M u) (F u))
      ∙ total-tests (top + 1) (λ u. M u && F u)
      ∙ ap (λ q. count_below q (λ u. M u && F u)) e
      ∙ count_below-past (top - w) (w + 1) (λ u. M u && F u)
      (λ k l. and_right (M k) (F k) (and_left (leb k w) (is_member a b (w - k)) (lt-leb k w (omega arith))))
      ∙ count_below-same (w + 1) (λ u. M u && F u) (λ u. M u && is_member a b (w - u))
      (λ u l. ap (λ q. M u && (q && is_member a b (w - u))) (le-leb u w (omega arith)))
