-- Acts on distinct slots, in any order
use Rattle.std.proofs.Common.{◌≡◌, ◌≢◌, ℕ, zero, suc, ◌+◌, ◌<◌, List, [], ◌∷◌, length, get_or, sym, ◌∙◌, ap, subst, refl, inl, inr, arith, eqb, cond}
use Rattle.std.specs.Prelude.{count_by}
use Rattle.std.proofs.lemmas.Bool.{cases_eq, cond-true, cond-false, eq-eqb, ne_eqb}
use Rattle.std.proofs.lemmas.List.Sums.{sum_by-cons}
use Rattle.std.proofs.lemmas.List.{same_lists}
use Rattle.ag_pool.specs.Acts.{Acted}
use Rattle.ag_pool.specs.Schedules.{change_at, after_acts, EveryScheduleGives}

length-change_at : {S : Type 0} (f : S → S) (k : ℕ) (xs : List S) → length (change_at f k xs) ≡ length xs
unfolding change_at
length-change_at f k [] = refl
length-change_at f zero (x ∷ xs) = refl
length-change_at f (suc k) (x ∷ xs) = ap suc (length-change_at f k xs)

get-change_at_same : {S : Type 0} (f : S → S) (k : ℕ) (xs : List S) (d : S) → k < length xs → get_or (change_at f k xs) k d ≡ f (get_or xs k d)
unfolding change_at
get-change_at_same f k [] d l = absurd (omega arith)
get-change_at_same f zero (x ∷ xs) d l = refl
get-change_at_same f (suc k) (x ∷ xs) d l = get-change_at_same f k xs d (omega arith)

get-change_at_other : {S : Type 0} (f : S → S) (k i : ℕ) (xs : List S) (d : S) → i ≢ k → get_or (change_at f k xs) i d ≡ get_or xs i d
unfolding change_at
get-change_at_other f k i [] d e = refl
get-change_at_other f zero zero (x ∷ xs) d e = absurd (e refl)
get-change_at_other f zero (suc i) (x ∷ xs) d e = refl
get-change_at_other f (suc k) zero (x ∷ xs) d e = refl
get-change_at_other f (suc k) (suc i) (x ∷ xs) d e = get-change_at_other f k i xs d (λ u. e (ap suc u))

length-after_acts : {S : Type 0} (after : ℕ → S → S) (order : List ℕ) (xs : List S) → length (after_acts after order xs) ≡ length xs
unfolding after_acts
length-after_acts after [] xs = refl
length-after_acts after (k ∷ order) xs = length-after_acts after order (change_at (after k) k xs) ∙ length-change_at (after k) k xs

count-same : (i : ℕ) (order : List ℕ) → count_by (λ x. eqb x i) (i ∷ order) ≡ suc (count_by (λ x. eqb x i) order)
count-same i order =
    sum_by-cons (λ x. cond (eqb x i) 1 0) i order
    ∙ ap (λ n. n + count_by (λ x. eqb x i) order) (cond-true (eqb i i) 1 0 (eq-eqb i i refl)) ∙ (let e : 1 + count_by (λ x. eqb x i) order ≡ suc (count_by (λ x. eqb x i) order) = omega arith in e)

count-other : (k i : ℕ) (order : List ℕ) → k ≢ i → count_by (λ x. eqb x i) (k ∷ order) ≡ count_by (λ x. eqb x i) order
count-other k i order d =
    sum_by-cons (λ x. cond (eqb x i) 1 0) k order
    ∙ ap (λ n. n + count_by (λ x. eqb x i) order) (cond-false (eqb k i) 1 0 (ne_eqb k i d)) ∙ (let e : 0 + count_by (λ x. eqb x i) order ≡ count_by (λ x. eqb x i) order = omega arith in e)

-- a slot that no act is on stays
acts_none : {S : Type 0} (after : ℕ → S → S) (order : List ℕ) (xs : List S) (i : ℕ) (d : S) → count_by (λ x. eqb x i) order ≡ 0 → get_or (after_acts after order xs) i d ≡ get_or xs i d
unfolding after_acts
acts_none after [] xs i d e = refl
acts_none after (k ∷ order) xs i d e = elim (cases_eq k i) [
  | inl same ↦ absurd (let f : count_by (λ x. eqb x i) (i ∷ order) ≡ 0 = ap (λ (n : ℕ). count_by (λ x. eqb x i) (n ∷ order)) (sym same) ∙ e in let g : count_by (λ x. eqb x i) (i ∷ order) ≡ suc (count_by (λ x. eqb x i) order) = count-same i order in omega arith)
  | inr ne ↦ acts_none after order (change_at (after k) k xs) i d (sym (count-other k i order ne) ∙ e) ∙ get-change_at_other (after k) k i xs d (λ u. ne (sym u))
]

-- a slot that one act is on is as the act leaves it
acts_once : {S : Type 0} (after : ℕ → S → S) (order : List ℕ) (xs : List S) (i : ℕ) (d : S) → i < length xs → count_by (λ x. eqb x i) order ≡ 1 → get_or (after_acts after order xs) i d ≡ after i (get_or xs i d)
unfolding after_acts
acts_once after [] xs i d l e = absurd (omega arith)
acts_once after (k ∷ order) xs i d l e = elim (cases_eq k i) [
  | inl same ↦
      let f : suc (count_by (λ x. eqb x i) order) ≡ 1 = sym (count-same i order) ∙ ap (λ (n : ℕ). count_by (λ x. eqb x i) (n ∷ order)) (sym same) ∙ e in
      acts_none after order (change_at (after k) k xs) i d (omega arith) ∙ ap (λ (n : ℕ). get_or (change_at (after n) n xs) i d) same ∙ get-change_at_same (after i) i xs d l
  | inr ne ↦
      acts_once after order (change_at (after k) k xs) i d (subst (λ (n : ℕ). i < n) (sym (length-change_at (after k) k xs)) l) (sym (count-other k i order ne) ∙ e)
      ∙ ap (after i) (get-change_at_other (after k) k i xs d (λ u. ne (sym u)))
]

-- so every schedule gives what one act on each slot gives
pub every_schedule : {S : Type 0} (after : ℕ → S → S) (old new : List S) → length new ≡ length old → Acted after old new → EveryScheduleGives after old new
every_schedule after old new e acted order h =
    same_lists (after_acts after order old) new (length-after_acts after order old ∙ sym e)
    (λ i d l.
    let low : i < length old = subst (λ (n : ℕ). i < n) (length-after_acts after order old) l in
    acts_once after order old i d low (h.each_once i low) ∙ sym (acted i d low))
