-- A member has no more pairs than there are members, so the radius is small
use Rattle.std.proofs.Common.{ℕ, zero, suc, ◌≡◌, ◌+◌, ◌*◌, ◌<◌, ◌≤◌, Bool, true, false, eqb, List, sym, subst, refl, inl, inr, arith, eqb-true}
use Rattle.std.proofs.lemmas.Bool.{cases_eq, cases_lt, false_from_ne_true}
use Rattle.field_theory.specs.Sums.{total, count_below, count_pairs, one_if}
use Rattle.field_theory.proofs.Counts.{count_below-yes, count_below-no, count_below-none, total-tests}
use Rattle.counting_theory.specs.Votes.{pairs}
use Rattle.order_theory.specs.Basis.{Basis, IsSoundBasis, sum_at, rank_at, pairs_at}
use Rattle.order_theory.specs.Codes.{IsBound, marked}
use Rattle.vote_core.proofs.Settled.{smaller}

-- a test that at most one number passes
count_once : (n : ℕ) (p : ℕ → Bool) → ((i j : ℕ) → i < n → j < n → p i ≡ true → p j ≡ true → i ≡ j) → count_below n p ≤ 1
count_once zero p h = omega arith
count_once (suc n) p h = go (p n) refl (count_once n p (λ i j li lj. h i j (omega arith) (omega arith)))
  where
    go : (t : Bool) → p n ≡ t → count_below n p ≤ 1 → count_below (suc n) p ≤ 1
    go true e ih =
        let none : count_below n p ≡ 0 = count_below-none n p (λ k l. false_from_ne_true (p k) (λ f. let same : k ≡ n = h k n (omega arith) (omega arith) f e in omega arith)) in
        omega (arith, count_below-yes n p e)
    go false e ih = omega (arith, count_below-no n p e)

total_few : (n m : ℕ) (f : ℕ → ℕ) → n ≤ m → ((i : ℕ) → i < m → f i ≤ 1) → total n f ≤ n
total_few zero m f l h = omega arith
total_few (suc n) m f l h = let ih : total n f ≤ n = total_few n m f (omega arith) h in let one : f n ≤ 1 = h n (omega arith) in omega arith

pairs-le-n : (n : ℕ) (sum_of : ℕ → ℕ → ℕ) (r : ℕ) → ((i p q : ℕ) → i < n → p < n → q < n → sum_of i p ≡ r → sum_of i q ≡ r → p ≡ q) → pairs n sum_of r ≤ n
unfolding pairs count_pairs
pairs-le-n n sum_of r once =
    total_few n n (λ i. total n (λ j. one_if (eqb (sum_of i j) r))) (omega arith)
    (λ i li. subst (λ (x : ℕ). x ≤ 1) (sym (total-tests n (λ j. eqb (sum_of i j) r)))
    (count_once n (λ j. eqb (sum_of i j) r) (λ p q lp lq ep eq. once i p q li lp lq (eqb-true (sum_of i p) r ep) (eqb-true (sum_of i q) r eq))))

pub radius_small : (b : Basis) (marks : List Bool) (t : ℕ) → IsSoundBasis b → (k : ℕ) × (k < b.n) × (marked marks k ≡ false) → IsBound b marks (2 * t + 1) → t + 1 ≤ 1024
radius_small b marks t h free bound =
    let k : ℕ = free.0 in
    let lk : free.0 < b.n = free.1 in
    let few : rank_at b free.0 < b.count = h.sound.shape.ranks_below free.0 lk in
    let most : 2 * t + 1 ≤ pairs_at b free.0 = bound.at_most free.0 lk free.2 in
    let counted : pairs_at b free.0 ≡ pairs b.n (sum_at b) (rank_at b free.0) = (h.sound.pairs_counted free.0 lk).counted in
    let less : pairs b.n (sum_at b) (rank_at b free.0) ≤ b.n =
    pairs-le-n b.n (sum_at b) (rank_at b free.0) (λ i p q li lp lq ep eq. elim (cases_lt p q) [
      | inl u ↦ let l : sum_at b i p < sum_at b i q = smaller b i q i p h li lq (omega arith) (omega arith) (omega arith) (omega arith) in absurd (omega arith)
      | inr u ↦ elim (cases_eq p q) [
        | inl e ↦ e
        | inr d ↦ let l : sum_at b i q < sum_at b i p = smaller b i p i q h li lp (omega arith) (omega arith) (omega arith) (omega arith) in absurd (omega arith)
      ]
    ]) in
    let small : b.n ≤ 1024 = h.sound.shape.few_members in
    omega arith
