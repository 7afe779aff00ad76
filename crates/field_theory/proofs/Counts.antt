-- How many of the numbers below n pass a test.
use Rattle.std.proofs.Common.{◌≡◌, ◌≢◌, ℕ, zero, suc, ◌+◌, ◌-◌, ◌<◌, ◌≤◌, Bool, true, false, cond, sym, ◌∙◌, ap, subst, refl, inl, inr, arith}
use Rattle.std.proofs.lemmas.Bool.{cond-true, cond-false}
use Rattle.field_theory.specs.Sums.{total, count_below}
use Rattle.field_theory.proofs.Sums.{eq_or_below}

pub count_below-yes : (n : ℕ) (p : ℕ → Bool) → p n ≡ true → count_below (suc n) p ≡ count_below n p + 1
count_below-yes n p h = ap (λ (x : ℕ). count_below n p + x) (cond-true (p n) 1 0 h)

pub count_below-no : (n : ℕ) (p : ℕ → Bool) → p n ≡ false → count_below (suc n) p ≡ count_below n p
count_below-no n p h = ap (λ (x : ℕ). count_below n p + x) (cond-false (p n) 1 0 h) ∙ omega arith

-- the same at n + 1, as a loop's step has it
pub count_below-next_yes : (n : ℕ) (p : ℕ → Bool) → p n ≡ true → count_below (n + 1) p ≡ count_below n p + 1
count_below-next_yes n p h = let e : n + 1 ≡ suc n = omega arith in ap (λ (z : ℕ). count_below z p) e ∙ count_below-yes n p h

pub count_below-next_no : (n : ℕ) (p : ℕ → Bool) → p n ≡ false → count_below (n + 1) p ≡ count_below n p
count_below-next_no n p h = let e : n + 1 ≡ suc n = omega arith in ap (λ (z : ℕ). count_below z p) e ∙ count_below-no n p h

pub count_below-more : (d n : ℕ) (p : ℕ → Bool) → count_below n p ≤ count_below (d + n) p
count_below-more zero n p = let e : 0 + n ≡ n = omega arith in subst (λ (x : ℕ). count_below n p ≤ count_below x p) (sym e) (omega arith)
count_below-more (suc d) n p =
    let ih : count_below n p ≤ count_below (d + n) p = count_below-more d n p in
    let e : suc d + n ≡ suc (d + n) = omega arith in
    let s : count_below (suc (d + n)) p ≡ count_below (d + n) p + cond (p (d + n)) 1 0 = refl in
    let h : count_below n p ≤ count_below (suc (d + n)) p = omega arith in
    subst (λ (x : ℕ). count_below n p ≤ count_below x p) (sym e) h

pub count_below-mono : (m n : ℕ) (p : ℕ → Bool) → m ≤ n → count_below m p ≤ count_below n p
count_below-mono m n p l =
    let e : (n - m) + m ≡ n = omega arith in
    subst (λ (x : ℕ). count_below m p ≤ count_below x p) e (count_below-more (n - m) m p)

pub count_below-lt : (m n : ℕ) (p : ℕ → Bool) → m < n → p m ≡ true → count_below m p < count_below n p
count_below-lt m n p l h =
    let e : count_below (suc m) p ≡ count_below m p + 1 = count_below-yes m p h in
    let f : count_below (suc m) p ≤ count_below n p = count_below-mono (suc m) n p (omega arith) in
    omega arith

pub count_below-same : (n : ℕ) (p q : ℕ → Bool) → ((k : ℕ) → k < n → p k ≡ q k) → count_below n p ≡ count_below n q
count_below-same zero p q h = refl
count_below-same (suc n) p q h =
    ap (λ z. z + cond (p n) 1 0) (count_below-same n p q (λ k l. h k (omega arith)))
    ∙ ap (λ z. count_below n q + cond z 1 0) (h n (omega arith))

pub count_below-all : (n : ℕ) → count_below n (λ k. true) ≡ n
count_below-all zero = refl
count_below-all (suc n) = let ih : count_below n (λ k. true) ≡ n = count_below-all n in omega arith

pub count_below-none : (n : ℕ) (p : ℕ → Bool) → ((k : ℕ) → k < n → p k ≡ false) → count_below n p ≡ 0
count_below-none zero p h = refl
count_below-none (suc n) p h = count_below-no n p (h n (omega arith)) ∙ count_below-none n p (λ k l. h k (omega arith))

pub count_below-one : (n : ℕ) (p : ℕ → Bool) (t : ℕ) → t < n → p t ≡ true → ((k : ℕ) → k < n → k ≢ t → p k ≡ false) → count_below n p ≡ 1
count_below-one zero p t l h only = absurd (omega arith)
count_below-one (suc n) p t l h only =
    elim (eq_or_below t n l) [
      | inl e ↦
          let c : count_below (suc n) p ≡ count_below n p + 1 = count_below-yes n p (ap p (sym e) ∙ h) in
          let z : count_below n p ≡ 0 = count_below-none n p (λ k m. only k (omega arith) (omega arith)) in
          omega arith
      | inr m ↦
          count_below-no n p (only n (omega arith) (omega arith)) ∙ count_below-one n p t m h (λ k o d. only k (omega arith) d)
    ]

pub count_below-past : (d n : ℕ) (p : ℕ → Bool) → ((k : ℕ) → n ≤ k → p k ≡ false) → count_below (d + n) p ≡ count_below n p
count_below-past zero n p h = let e : 0 + n ≡ n = omega arith in ap (λ z. count_below z p) e
count_below-past (suc d) n p h =
    let e : suc d + n ≡ suc (d + n) = omega arith in
    ap (λ z. count_below z p) e ∙ count_below-no (d + n) p (h (d + n) (omega arith)) ∙ count_below-past d n p h

pub total-tests : (n : ℕ) (q : ℕ → Bool) → total n (λ w. cond (q w) 1 0) ≡ count_below n q
total-tests zero q = refl
total-tests (suc n) q = ap (λ z. z + cond (q n) 1 0) (total-tests n q)

pub count_below-le : (n : ℕ) (p : ℕ → Bool) → count_below n p ≤ n
count_below-le zero p = omega arith
count_below-le (suc n) p = go (p n) (count_below-le n p)
  where
    go : (b : Bool) → count_below n p ≤ n → count_below n p + cond b 1 0 ≤ suc n
    go true h = omega arith
    go false h = omega arith
