-- Lists that are kept beside rows tell which rows are new, and in the end are dual to the new rows
use Rattle.std.proofs.Common.{◌≡◌, ◌≢◌, ◌⊎◌, ℕ, zero, suc, ◌+◌, ◌<◌, ◌≤◌, cond, ltb, sym, ◌∙◌, ap, subst, refl, inl, inr, arith, bit_xor}
use Rattle.std.specs.Int.Bits.{xor_self, xor_zero_r}
use Rattle.std.proofs.lemmas.Bool.{cases_eq, cases_lt, cond-true, cond-false, lt-ltb, le-ltb}
use Rattle.field_theory.specs.Field.{IsField}
use Rattle.field_theory.specs.Sums.{unit, put, xor_sum}
use Rattle.linear_theory.specs.Functionals.{AreFunctionals, IsPivotList, AreCleared}
use Rattle.linear_theory.specs.Linear.{dot, combine, IsCombination, rank}
use Rattle.field_theory.proofs.Sums.{sum-same, sum-xor, sum-zero, mul-sum, mul-zero, xor_same, mul_left_comm, mul_one, xor_below, sum_below, eq_or_below}
use Rattle.linear_theory.proofs.Spans.{put-same, put-other, combination_row, combination_through}
use Rattle.linear_theory.proofs.Ranks.{rank_same, rank_more, rank_zero}
use Rattle.linear_theory.proofs.Duals.{unit-flip, sum_unit, dot_comm, dot_below, dot_combine}
use Rattle.linear_theory.proofs.Flips.{orthogonal_span}

module _ (size : ℕ) (mul : ℕ → ℕ → ℕ) (field : IsField size mul) where
  pub dot_xor : (n : ℕ) (e u w : ℕ → ℕ) → dot mul n e (λ p. bit_xor (u p) (w p)) ≡ bit_xor (dot mul n e u) (dot mul n e w)
  dot_xor n e u w =
      sum-same n (λ p. mul (e p) (bit_xor (u p) (w p))) (λ p. bit_xor (mul (e p) (u p)) (mul (e p) (w p))) (λ p l. field.mul_xor (e p) (u p) (w p))
      ∙ sum-xor n (λ p. mul (e p) (u p)) (λ p. mul (e p) (w p))

  pub dot_scale : (n : ℕ) (e : ℕ → ℕ) (x : ℕ) (w : ℕ → ℕ) → dot mul n e (λ p. mul x (w p)) ≡ mul x (dot mul n e w)
  dot_scale n e x w =
      sum-same n (λ p. mul (e p) (mul x (w p))) (λ p. mul x (mul (e p) (w p))) (λ p l. mul_left_comm size mul field (e p) x (w p))
      ∙ sym (mul-sum size mul field x n (λ p. mul (e p) (w p)))

  dot_same : (n : ℕ) (e u w : ℕ → ℕ) → ((p : ℕ) → p < n → u p ≡ w p) → dot mul n e u ≡ dot mul n e w
  dot_same n e u w h = sum-same n (λ p. mul (e p) (u p)) (λ p. mul (e p) (w p)) (λ p l. ap (λ y. mul (e p) y) (h p l))

  -- a list with a multiple of another one
  pub dot_added : (n : ℕ) (e u w v : ℕ → ℕ) (x : ℕ) → ((p : ℕ) → p < n → v p ≡ bit_xor (u p) (mul x (w p))) → dot mul n e v ≡ bit_xor (dot mul n e u) (mul x (dot mul n e w))
  dot_added n e u w v x h =
      dot_same n e v (λ p. bit_xor (u p) (mul x (w p))) h ∙ dot_xor n e u (λ p. mul x (w p))
      ∙ ap (λ y. bit_xor (dot mul n e u) y) (dot_scale n e x w)

  pub dot_scaled : (n : ℕ) (e u v : ℕ → ℕ) (x : ℕ) → ((p : ℕ) → p < n → v p ≡ mul x (u p)) → dot mul n e v ≡ mul x (dot mul n e u)
  dot_scaled n e u v x h = dot_same n e v (λ p. mul x (u p)) h ∙ dot_scale n e x u

module _ (size : ℕ) (mul : ℕ → ℕ → ℕ) (field : IsField size mul) (n : ℕ) (rows : ℕ → ℕ → ℕ) (symbols : (i j : ℕ) → rows i j < size) where
  unit_here : (t : ℕ) → unit t t ≡ 1
  unit_here t = put-same (λ i. 0) t 1

  unit_else : (t q : ℕ) → q ≢ t → unit t q ≡ 0
  unit_else t q d = put-other (λ i. 0) t 1 q d

  -- before the first row the lists are the unit vectors
  pub functionals_none : (picks : ℕ → ℕ) → AreFunctionals size mul n rows 0 0 picks unit
  functionals_none picks = record {
    below = λ t l. absurd (omega arith);
    rising = λ s t l m. absurd (omega arith);
    fresh = λ t l c. omega arith;
    others = λ i l d. absurd (omega arith);
    products = λ t q l m. absurd (omega arith);
    seen = λ w low z p l.
        let at : dot mul n w (unit p) ≡ w p =
        sum-same n (λ q. mul (w q) (unit p q)) (λ q. mul (w q) (unit q p)) (λ q m. ap (λ y. mul (w q) y) (unit-flip p q))
        ∙ sum_unit size mul field n w p l ∙ mul_one size mul field (w p) (low p l) in
        sym at ∙ z p l;
    counted = sym (rank_zero size mul field n rows);
  }

  module _ (r k : ℕ) (picks : ℕ → ℕ) (U : ℕ → ℕ → ℕ) (h : AreFunctionals size mul n rows r k picks U) where
    new_rows : ℕ → ℕ → ℕ
    new_rows t = rows (picks t)

    sum_of_units : (c : ℕ → ℕ) (q : ℕ) → ((t : ℕ) → c t < size) → q < n → xor_sum k (λ t. mul (c t) (dot mul n (rows (picks t)) (U q))) ≡ cond (ltb q k) (c q) 0
    sum_of_units c q low l = elim (cases_lt q k) [
      | inl m ↦
          sum-same k (λ t. mul (c t) (dot mul n (rows (picks t)) (U q))) (λ t. mul (c t) (unit t q)) (λ t lt. ap (λ y. mul (c t) y) (h.products t q lt l))
          ∙ sum_unit size mul field k c q m ∙ mul_one size mul field (c q) (low q)
          ∙ sym (cond-true (ltb q k) (c q) 0 (lt-ltb q k m))
      | inr m ↦
          sum-zero k (λ t. mul (c t) (dot mul n (rows (picks t)) (U q)))
          (λ t lt. ap (λ y. mul (c t) y) (h.products t q lt l ∙ unit_else t q (omega arith)) ∙ mul-zero size mul field (c t))
          ∙ sym (cond-false (ltb q k) (c q) 0 (le-ltb q k m))
    ]

    -- a vector on which the later lists vanish is a combination of the new rows
    pub functionals_span : (v : ℕ → ℕ) → ((p : ℕ) → v p < size) → ((q : ℕ) → k ≤ q → q < n → dot mul n v (U q) ≡ 0) → IsCombination mul n (λ t. rows (picks t)) k v
    functionals_span v low z =
        let c : ℕ → ℕ = λ t. dot mul n v (U t) in
        let rest : ℕ → ℕ = combine mul k (λ t. dot mul n v (U t)) (λ t. rows (picks t)) in
        let w : ℕ → ℕ = λ p. bit_xor (v p) (combine mul k (λ t. dot mul n v (U t)) (λ t. rows (picks t)) p) in
        let unseen : (q : ℕ) → q < n → dot mul n w (U q) ≡ 0 = λ q l. (
        dot_comm size mul field n w (U q) ∙ dot_xor size mul field n (U q) v (combine mul k (λ t. dot mul n v (U t)) (λ t. rows (picks t)))
        ∙ ap (λ y. bit_xor y (dot mul n (U q) (combine mul k (λ t. dot mul n v (U t)) (λ t. rows (picks t))))) (dot_comm size mul field n (U q) v)
        ∙ ap (λ y. bit_xor (dot mul n v (U q)) y) (dot_comm size mul field n (U q) (combine mul k (λ t. dot mul n v (U t)) (λ t. rows (picks t)))
        ∙ dot_combine size mul field n (λ t. rows (picks t)) k (λ t. dot mul n v (U t)) (combine mul k (λ t. dot mul n v (U t)) (λ t. rows (picks t))) (U q) (λ p m. refl)
        ∙ sum_of_units (λ t. dot mul n v (U t)) q (λ t. dot_below size mul field n v (U t)) l)
        ∙ elim (cases_lt q k) [
          | inl m ↦ ap (λ y. bit_xor (dot mul n v (U q)) y) (cond-true (ltb q k) (dot mul n v (U q)) 0 (lt-ltb q k m)) ∙ xor_self (dot mul n v (U q))
          | inr m ↦ ap (λ y. bit_xor (dot mul n v (U q)) y) (cond-false (ltb q k) (dot mul n v (U q)) 0 (le-ltb q k m)) ∙ ap (λ y. bit_xor y 0) (z q m l)
        ]) in
        record {
          factors = λ t. dot mul n v (U t);
          is_sum = λ p l. xor_same (v p) (combine mul k (λ t. dot mul n v (U t)) (λ t. rows (picks t)) p)
              (h.seen w (λ q m. xor_below size mul field (v q) (combine mul k (λ t. dot mul n v (U t)) (λ t. rows (picks t)) q) (low q) (sum_below size mul field k (λ t. mul (dot mul n v (U t)) (rows (picks t) q)) (λ t lt. field.mul_below (dot mul n v (U t)) (rows (picks t) q)))) unseen p l);
        }

    -- what vanishes on the new rows vanishes on all rows so far
    vanishes_all : (x : ℕ → ℕ) → ((t : ℕ) → t < k → dot mul n (rows (picks t)) x ≡ 0) → (s : ℕ) → s ≤ r → (i : ℕ) → i < s → dot mul n (rows i) x ≡ 0
    vanishes_all x z zero ls i l = absurd (omega arith)
    vanishes_all x z (suc s) ls i l = elim (eq_or_below i s l) [
      | inr m ↦ vanishes_all x z s (omega arith) i m
      | inl e ↦ subst (λ (j : ℕ). dot mul n (rows j) x ≡ 0) (sym e) (elim (cases_pick s k) [
        | inl w ↦ subst (λ (j : ℕ). dot mul n (rows j) x ≡ 0) (sym w.2) (z w.0 w.1)
        | inr d ↦ orthogonal_span size mul field n rows s (rows s) x (λ j m. vanishes_all x z s (omega arith) j m) (h.others s (omega arith) d)
      ])
    ]
      where
        cases_pick : (s m : ℕ) → ((t : ℕ) × (t < m) × (s ≡ picks t)) ⊎ ((t : ℕ) → t < m → s ≢ picks t)
        cases_pick s zero = inr (λ t l. absurd (omega arith))
        cases_pick s (suc m) = elim (cases_eq s (picks m)) [
          | inl e ↦ inl (m, omega arith, e)
          | inr d ↦ elim (cases_pick s m) [
            | inl w ↦ inl (w.0, (let l : w.0 < m = w.1 in omega arith), w.2)
            | inr none ↦ inr (λ t l. elim (eq_or_below t m l) [ inl e ↦ (λ f. d (f ∙ ap picks e)) | inr u ↦ none t u ])
          ]
        ]

    -- a row on which the later lists vanish is a combination of those before it ..
    pub functionals_kept : ((q : ℕ) → k ≤ q → q < n → dot mul n (rows r) (U q) ≡ 0) → AreFunctionals size mul n rows (r + 1) k picks U
    functionals_kept z =
        let spanned : IsCombination mul n rows r (rows r) =
        combination_through size mul field n (λ t. rows (picks t)) k rows r (rows r) (λ t l. combination_row size mul field n rows r symbols (picks t) (h.below t l))
        (functionals_span (rows r) (symbols r) z) in
        record {
          below = λ t l. let m : picks t < r = h.below t l in omega arith;
          rising = h.rising;
          fresh = h.fresh;
          others = λ i l d. elim (eq_or_below i r (let m : i < suc r = omega arith in m)) [
            | inl e ↦ subst (λ (j : ℕ). IsCombination mul n rows j (rows j)) (sym e) spanned
            | inr m ↦ h.others i m d
          ];
          products = h.products;
          seen = h.seen;
          counted = h.counted ∙ sym (rank_same size mul field n rows r spanned) ∙ ap (λ (s : ℕ). rank size mul n rows s) (let e : suc r ≡ r + 1 = omega arith in e);
        }

    -- .. and one with a pivot list is new
    pub functionals_grown : (P : ℕ → ℕ) (V : ℕ → ℕ → ℕ) → k < n → IsPivotList mul n rows r k picks U P → AreCleared mul n (rows r) k U P V → AreFunctionals size mul n rows (r + 1) (k + 1) (put picks k r) V
    functionals_grown P V few pivot cleared =
        let at_k : put picks k r k ≡ r = put-same picks k r in
        let at : (t : ℕ) → t < k → put picks k r t ≡ picks t = λ t l. put-other picks k r t (omega arith) in
        let is_new : IsCombination mul n rows r (rows r) → ⊥ = λ c.
        let z : dot mul n (rows r) P ≡ 0 = orthogonal_span size mul field n rows r (rows r) P (λ i l. vanishes_all P pivot.vanishes r (omega arith) i l) c in
        let o : dot mul n (rows r) P ≡ 1 = pivot.one in
        omega arith in
        let here : (e : ℕ → ℕ) → dot mul n e (V k) ≡ dot mul n e P = λ e. dot_same size mul field n e (V k) P cleared.pivot in
        let there : (e : ℕ → ℕ) (q : ℕ) → q < n → q ≢ k → dot mul n e (V q) ≡ bit_xor (dot mul n e (U q)) (mul (dot mul n (rows r) (U q)) (dot mul n e P)) =
        λ e q l d. dot_added size mul field n e (U q) P (V q) (dot mul n (rows r) (U q)) (cleared.others q l d) in
        record {
          below = λ t l. elim (eq_or_below t k (let m : t < suc k = omega arith in m)) [
            | inl e ↦ let u : put picks k r t ≡ r = ap (put picks k r) e ∙ at_k in omega arith
            | inr m ↦ let u : put picks k r t ≡ picks t = at t m in let w : picks t < r = h.below t m in omega arith
          ];
          rising = λ s t l m. elim (eq_or_below t k (let u : t < suc k = omega arith in u)) [
            | inl e ↦
                let x : put picks k r t ≡ r = ap (put picks k r) e ∙ at_k in
                let y : put picks k r s ≡ picks s = at s (omega arith) in
                let w : picks s < r = h.below s (omega arith) in
                omega arith
            | inr u ↦
                let x : put picks k r t ≡ picks t = at t u in
                let y : put picks k r s ≡ picks s = at s (omega arith) in
                let w : picks s < picks t = h.rising s t l u in
                omega arith
          ];
          fresh = λ t l c. elim (eq_or_below t k (let m : t < suc k = omega arith in m)) [
            | inl e ↦ is_new (subst (λ (i : ℕ). IsCombination mul n rows i (rows i)) (ap (put picks k r) e ∙ at_k) c)
            | inr m ↦ h.fresh t m (subst (λ (i : ℕ). IsCombination mul n rows i (rows i)) (at t m) c)
          ];
          others = λ i l d. elim (eq_or_below i r (let m : i < suc r = omega arith in m)) [
            | inl e ↦ absurd (d k (omega arith) (e ∙ sym at_k))
            | inr m ↦ h.others i m (λ t lt f. d t (omega arith) (f ∙ sym (at t lt)))
          ];
          products = λ t q l lq. elim (eq_or_below t k (let m : t < suc k = omega arith in m)) [
            | inl e ↦
                subst (λ (s : ℕ). dot mul n (rows (put picks k r s)) (V q) ≡ unit s q) (sym e)
                (ap (λ (s : ℕ). dot mul n (rows s) (V q)) at_k ∙ elim (cases_eq q k) [
                  | inl f ↦ subst (λ (p : ℕ). dot mul n (rows r) (V p) ≡ unit k p) (sym f) (here (rows r) ∙ pivot.one ∙ sym (unit_here k))
                  | inr d ↦
                      there (rows r) q lq d
                      ∙ ap (λ (y : ℕ). bit_xor (dot mul n (rows r) (U q)) y) (ap (λ (y : ℕ). mul (dot mul n (rows r) (U q)) y) pivot.one ∙ mul_one size mul field (dot mul n (rows r) (U q)) (dot_below size mul field n (rows r) (U q)))
                      ∙ xor_self (dot mul n (rows r) (U q)) ∙ sym (unit_else k q d)
                ])
            | inr m ↦
                ap (λ (s : ℕ). dot mul n (rows s) (V q)) (at t m) ∙ elim (cases_eq q k) [
                  | inl f ↦ subst (λ (p : ℕ). dot mul n (rows (picks t)) (V p) ≡ unit t p) (sym f) (here (rows (picks t)) ∙ pivot.vanishes t m ∙ sym (unit_else t k (omega arith)))
                  | inr d ↦
                      there (rows (picks t)) q lq d
                      ∙ ap (λ (y : ℕ). bit_xor (dot mul n (rows (picks t)) (U q)) y) (ap (λ (y : ℕ). mul (dot mul n (rows r) (U q)) y) (pivot.vanishes t m) ∙ mul-zero size mul field (dot mul n (rows r) (U q)))
                      ∙ xor_zero_r (dot mul n (rows (picks t)) (U q)) ∙ h.products t q m lq
                ]
          ];
          seen = λ w low z.
              let unseen : dot mul n w P ≡ 0 = sym (here w) ∙ z k few in
              let rest : (q : ℕ) → q < n → q ≢ k → dot mul n w (U q) ≡ 0 = λ q l d.
              sym (there w q l d
              ∙ ap (λ (y : ℕ). bit_xor (dot mul n w (U q)) y) (ap (λ (y : ℕ). mul (dot mul n (rows r) (U q)) y) unseen ∙ mul-zero size mul field (dot mul n (rows r) (U q)))
              ∙ xor_zero_r (dot mul n w (U q))) ∙ z q l in
              h.seen w low (λ q l. elim (cases_eq q k) [
                | inl e ↦ subst (λ (s : ℕ). dot mul n w (U s) ≡ 0) (sym e) (pivot.sees w unseen rest)
                | inr d ↦ rest q l d
              ]);
          counted = ap (λ (s : ℕ). s + 1) h.counted ∙ sym (rank_more size mul field n rows r is_new) ∙ ap (λ (s : ℕ). rank size mul n rows s) (let e : suc r ≡ r + 1 = omega arith in e);
        }

    -- a multiple of list k, where that list does not vanish on row r
    pub pivot_of_scaled : (P : ℕ → ℕ) (x : ℕ) → k < n → ((p : ℕ) → p < n → P p ≡ mul x (U k p)) → mul x (dot mul n (rows r) (U k)) ≡ 1 → IsPivotList mul n rows r k picks U P
    pivot_of_scaled P x few is inverse =
        let there : (e : ℕ → ℕ) → dot mul n e P ≡ mul x (dot mul n e (U k)) = λ e. dot_scaled size mul field n e (U k) P x is in
        let c : ℕ = dot mul n (rows r) (U k) in
        record {
          one = there (rows r) ∙ inverse;
          vanishes = λ t l. there (rows (picks t)) ∙ ap (λ (y : ℕ). mul x y) (h.products t k l few ∙ unit_else t k (omega arith)) ∙ mul-zero size mul field x;
          sees = λ w z rest.
              sym (ap (λ (y : ℕ). mul y (dot mul n w (U k))) (field.mul_comm (dot mul n (rows r) (U k)) x ∙ inverse) ∙ field.one_mul (dot mul n w (U k)) (dot_below size mul field n w (U k)))
              ∙ field.mul_assoc (dot mul n (rows r) (U k)) x (dot mul n w (U k))
              ∙ ap (λ (y : ℕ). mul (dot mul n (rows r) (U k)) y) (sym (there w) ∙ z) ∙ mul-zero size mul field (dot mul n (rows r) (U k));
        }

    -- list k, which vanishes on row r, with a multiple of a later list that does not
    pub pivot_of_added : (P : ℕ → ℕ) (x q : ℕ) → k < q → q < n → ((p : ℕ) → p < n → P p ≡ bit_xor (U k p) (mul x (U q p))) → dot mul n (rows r) (U k) ≡ 0 → mul x (dot mul n (rows r) (U q)) ≡ 1 → IsPivotList mul n rows r k picks U P
    pivot_of_added P x q later lq is zero_at_k inverse =
        let there : (e : ℕ → ℕ) → dot mul n e P ≡ bit_xor (dot mul n e (U k)) (mul x (dot mul n e (U q))) = λ e. dot_added size mul field n e (U k) (U q) P x is in
        record {
          one = there (rows r) ∙ ap (λ (y : ℕ). bit_xor y (mul x (dot mul n (rows r) (U q)))) zero_at_k ∙ ap (λ (y : ℕ). bit_xor 0 y) inverse;
          vanishes = λ t l.
              there (rows (picks t))
              ∙ ap (λ (y : ℕ). bit_xor y (mul x (dot mul n (rows (picks t)) (U q)))) (h.products t k l (omega arith) ∙ unit_else t k (omega arith))
              ∙ ap (λ (y : ℕ). bit_xor 0 y) (ap (λ (y : ℕ). mul x y) (h.products t q l lq ∙ unit_else t q (omega arith)) ∙ mul-zero size mul field x);
          sees = λ w z rest.
              sym (there w ∙ ap (λ (y : ℕ). bit_xor (dot mul n w (U k)) y) (ap (λ (y : ℕ). mul x y) (rest q lq (omega arith)) ∙ mul-zero size mul field x) ∙ xor_zero_r (dot mul n w (U k))) ∙ z;
        }

    -- with n new rows all further rows are combinations
    pub functionals_full : k ≡ n → (i : ℕ) → r ≤ i → IsCombination mul n rows i (rows i)
    functionals_full e i l =
        combination_through size mul field n (λ t. rows (picks t)) k rows i (rows i)
        (λ t m. combination_row size mul field n rows i symbols (picks t) (let u : picks t < r = h.below t m in omega arith))
        (functionals_span (rows i) (symbols i) (λ q a b. absurd (omega arith)))

  -- only the entries of the lists, and the picks below k, count
  pub functionals_same : (r k : ℕ) (picks picks' : ℕ → ℕ) (U V : ℕ → ℕ → ℕ) → ((q p : ℕ) → q < n → p < n → V q p ≡ U q p) → ((t : ℕ) → t < k → picks' t ≡ picks t) → AreFunctionals size mul n rows r k picks U → AreFunctionals size mul n rows r k picks' V
  functionals_same r k picks picks' U V lists names h =
      let same : (e : ℕ → ℕ) (q : ℕ) → q < n → dot mul n e (V q) ≡ dot mul n e (U q) = λ e q l. dot_same size mul field n e (V q) (U q) (λ p m. lists q p l m) in
      record {
        below = λ t l. let u : picks t < r = h.below t l in let e : picks' t ≡ picks t = names t l in omega arith;
        rising = λ s t l m.
            let u : picks s < picks t = h.rising s t l m in
            let e : picks' s ≡ picks s = names s (omega arith) in
            let f : picks' t ≡ picks t = names t m in
            omega arith;
        fresh = λ t l c. h.fresh t l (subst (λ (i : ℕ). IsCombination mul n rows i (rows i)) (names t l) c);
        others = λ i l d. h.others i l (λ t m e. d t m (e ∙ sym (names t m)));
        products = λ t q l m. ap (λ (i : ℕ). dot mul n (rows i) (V q)) (names t l) ∙ same (rows (picks t)) q m ∙ h.products t q l m;
        seen = λ w low z. h.seen w low (λ q l. sym (same w q l) ∙ z q l);
        counted = h.counted;
      }
