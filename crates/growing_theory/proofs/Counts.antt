-- How many numbers pass a test
use Rattle.std.proofs.lemmas.Bool.{cond-true, cond-false, le-ltb}
use Rattle.std.proofs.Common.{◌≡◌, ◌≢◌, ℕ, zero, suc, ◌+◌, ◌<◌, ◌≤◌, sym, ◌∙◌, ap, refl, inl, inr, arith, cond, ltb, Bool}
use Rattle.field_theory.specs.Sums.{count_below}
use Rattle.field_theory.proofs.Sums.{eq_or_below}

pub count_same : (n : ℕ) (p q : ℕ → Bool) → ((i : ℕ) → i < n → p i ≡ q i) → count_below n p ≡ count_below n q
count_same zero p q e = refl
count_same (suc n) p q e =
    ap (λ x. x + cond (p n) 1 0) (count_same n p q (λ i l. e i (omega arith))) ∙ ap (λ b. count_below n q + cond b 1 0) (e n (omega arith))

-- one more number passes
pub count_more : (n : ℕ) (p q : ℕ → Bool) (k : ℕ) → k < n → ((i : ℕ) → i < n → i ≢ k → p i ≡ q i) → p k ≡ Bool.false → q k ≡ Bool.true → count_below n q ≡ count_below n p + 1
count_more zero p q k l e a b = absurd (omega arith)
count_more (suc n) p q k l e a b = elim (eq_or_below k n l) [
  | inl d ↦
      let front : count_below n p ≡ count_below n q = count_same n p q (λ i m. e i (omega arith) (omega arith)) in
      ap (λ x. count_below n q + x) (cond-true (q n) 1 0 (ap q (sym d) ∙ b)) ∙ ap (λ x. x + 1) (sym front)
      ∙ ap (λ x. x + 1) (sym (ap (λ x. count_below n p + x) (cond-false (p n) 1 0 (ap p (sym d) ∙ a)) ∙ omega arith))
  | inr m ↦
      let ih : count_below n q ≡ count_below n p + 1 = count_more n p q k m (λ i u. e i (omega arith)) a b in
      let last : p n ≡ q n = e n (omega arith) (omega arith) in
      ap (λ x. x + cond (q n) 1 0) ih ∙ ap (λ c. count_below n p + 1 + cond c 1 0) (sym last) ∙ omega arith
]

pub count-le : (n : ℕ) (p : ℕ → Bool) → count_below n p ≤ n
count-le zero p = omega arith
count-le (suc n) p = count-le_step (count_below n p) n (p n) (count-le n p)
  where
    count-le_step : (c n : ℕ) (b : Bool) → c ≤ n → c + cond b 1 0 ≤ suc n
    count-le_step c n Bool.true l = omega arith
    count-le_step c n Bool.false l = omega arith

-- where one number does not pass, not all do
pub count_room : (n : ℕ) (p : ℕ → Bool) (k : ℕ) → k < n → p k ≡ Bool.false → count_below n p < n
count_room zero p k l e = absurd (omega arith)
count_room (suc n) p k l e = elim (eq_or_below k n l) [
  | inl d ↦
      let z : count_below n p + cond (p n) 1 0 ≡ count_below n p + 0 = ap (λ x. count_below n p + x) (cond-false (p n) 1 0 (ap p (sym d) ∙ e)) in
      let u : count_below n p ≤ n = count-le n p in omega arith
  | inr m ↦ count_room_step (count_below n p) n (p n) (count_room n p k m e)
]
  where
    count_room_step : (c n : ℕ) (b : Bool) → c < n → c + cond b 1 0 < suc n
    count_room_step c n Bool.true l = omega arith
    count_room_step c n Bool.false l = omega arith

pub count_none : (n m : ℕ) (pivot : ℕ → ℕ) → ((i : ℕ) → i < n → m ≤ pivot i) → count_below n (λ i. ltb (pivot i) m) ≡ 0
count_none zero m pivot h = refl
count_none (suc n) m pivot h =
    ap (λ x. x + cond (ltb (pivot n) m) 1 0) (count_none n m pivot (λ i l. h i (omega arith)))
    ∙ ap (λ b. 0 + cond b 1 0) (le-ltb (pivot n) m (h n (omega arith)))
