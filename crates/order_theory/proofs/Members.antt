-- Sums over indices of what is 0 but at the members
use Rattle.std.proofs.Common.{◌≡◌, ◌≢◌, ℕ, zero, suc, ◌+◌, ◌<◌, sym, ◌∙◌, ap, refl, inl, inr, arith, cond, eqb}
use Rattle.std.proofs.lemmas.Bool.{cases_eq, cond-true, cond-false, eq-eqb, ne_eqb}
use Rattle.field_theory.proofs.Sums.{eq_or_below}
use Rattle.field_theory.specs.Sums.{total, one_if, count_pairs}
use Rattle.counting_theory.specs.Votes.{pairs}
use Rattle.field_theory.proofs.Totals.{total_same, total-add, total_zero}

total_only : (n i0 : ℕ) (f : ℕ → ℕ) → i0 < n → ((i : ℕ) → i < n → i ≢ i0 → f i ≡ 0) → total n f ≡ f i0
total_only zero i0 f l h = absurd (omega arith)
total_only (suc n) i0 f l h = elim (eq_or_below i0 n l) [
  | inl e ↦
      let z : total n f ≡ 0 = total_zero n f (λ i m. h i (omega arith) (omega arith)) in
      let s : f n ≡ f i0 = ap f (sym e) in
      omega arith
  | inr m ↦
      let ih : total n f ≡ f i0 = total_only n i0 f m (λ i u. h i (omega arith)) in
      let z : f n ≡ 0 = h n (omega arith) (omega arith) in
      omega arith
]

-- f but at one place, and f there alone
abbrev without : ℕ → (ℕ → ℕ) → ℕ → ℕ
without p f i = cond (eqb i p) 0 (f i)

abbrev alone : ℕ → (ℕ → ℕ) → ℕ → ℕ
alone p f i = cond (eqb i p) (f i) 0

without-there : (p : ℕ) (f : ℕ → ℕ) (i : ℕ) → i ≡ p → without p f i ≡ 0
without-there p f i e = cond-true (eqb i p) 0 (f i) (eq-eqb i p e)

without-else : (p : ℕ) (f : ℕ → ℕ) (i : ℕ) → i ≢ p → without p f i ≡ f i
without-else p f i d = cond-false (eqb i p) 0 (f i) (ne_eqb i p d)

alone-there : (p : ℕ) (f : ℕ → ℕ) (i : ℕ) → i ≡ p → alone p f i ≡ f i
alone-there p f i e = cond-true (eqb i p) (f i) 0 (eq-eqb i p e)

alone-else : (p : ℕ) (f : ℕ → ℕ) (i : ℕ) → i ≢ p → alone p f i ≡ 0
alone-else p f i d = cond-false (eqb i p) (f i) 0 (ne_eqb i p d)

parts : (p : ℕ) (f : ℕ → ℕ) (i : ℕ) → f i ≡ without p f i + alone p f i
parts p f i = elim (cases_eq i p) [
  | inl e ↦ omega (arith, without-there p f i e, alone-there p f i e)
  | inr d ↦ omega (arith, without-else p f i d, alone-else p f i d)
]

total_members : (count n : ℕ) (r f : ℕ → ℕ) → ((k : ℕ) → k < n → r k < count) → ((i j : ℕ) → i < j → j < n → r i < r j) → ((i : ℕ) → i < count → ((k : ℕ) → k < n → i ≢ r k) → f i ≡ 0) → total count f ≡ total n (λ k. f (r k))
total_members count zero r f low rise h = total_zero count f (λ i l. h i l (λ k m. absurd (omega arith)))
total_members count (suc n) r f low rise h =
    let p : ℕ = r n in
    let whole : total count f ≡ total count (λ i. without (r n) f i + alone (r n) f i) = total_same count f (λ i. without (r n) f i + alone (r n) f i) (λ i l. parts (r n) f i) in
    let split : total count (λ i. without (r n) f i + alone (r n) f i) ≡ total count (without (r n) f) + total count (alone (r n) f) = total-add count (without (r n) f) (alone (r n) f) in
    let one : total count (alone (r n) f) ≡ alone (r n) f (r n) = total_only count (r n) (alone (r n) f) (low n (omega arith)) (λ i l d. alone-else (r n) f i d) in
    let here : alone (r n) f (r n) ≡ f (r n) = alone-there (r n) f (r n) refl in
    let ih : total count (without (r n) f) ≡ total n (λ k. without (r n) f (r k)) =
    total_members count n r (without (r n) f) (λ k l. low k (omega arith)) (λ i j l m. rise i j l (omega arith))
    (λ i l none. elim (cases_eq i (r n)) [
      | inl e ↦ without-there (r n) f i e
      | inr d ↦ without-else (r n) f i d ∙ h i l (λ k m. elim (eq_or_below k n m) [ inl e ↦ (λ u. d (u ∙ ap r e)) | inr v ↦ none k v ])
    ]) in
    let rest : total n (λ k. without (r n) f (r k)) ≡ total n (λ k. f (r k)) =
    total_same n (λ k. without (r n) f (r k)) (λ k. f (r k)) (λ k l. without-else (r n) f (r k) (λ e. let u : r k < r n = rise k n l (omega arith) in omega arith)) in
    omega arith

-- pairs of indices with a sum that only pairs of members have are pairs of members
pub pairs_members : (count n s : ℕ) (r : ℕ → ℕ) (sum : ℕ → ℕ → ℕ) → ((k : ℕ) → k < n → r k < count) → ((i j : ℕ) → i < j → j < n → r i < r j)
    → ((i j : ℕ) → i < count → j < count → sum i j ≡ s → ((k : ℕ) → k < n → i ≢ r k) → ⊥) → ((i j : ℕ) → i < count → j < count → sum i j ≡ s → ((k : ℕ) → k < n → j ≢ r k) → ⊥)
    → pairs count sum s ≡ pairs n (λ a c. sum (r a) (r c)) s
unfolding pairs count_pairs
pairs_members count n s r sum low rise left right =
    total_members count n r (λ i. total count (λ j. one_if (eqb (sum i j) s))) low rise
    (λ i l none. total_zero count (λ j. one_if (eqb (sum i j) s)) (λ j m. nothing (sum i j) (λ e. left i j l m e none)))
    ∙ total_same n (λ a. total count (λ j. one_if (eqb (sum (r a) j) s))) (λ a. total n (λ c. one_if (eqb (sum (r a) (r c)) s)))
    (λ a l.
    total_members count n r (λ j. one_if (eqb (sum (r a) j) s)) low rise
    (λ j m none. nothing (sum (r a) j) (λ e. right (r a) j (low a l) m e none)))
  where
    nothing : (x : ℕ) → (x ≡ s → ⊥) → one_if (eqb x s) ≡ 0
    nothing x d = cond-false (eqb x s) 1 0 (ne_eqb x s d)
