-- The places of pairs in a flat table
use Rattle.std.proofs.Common.{ℕ, ◌≡◌, refl, ◌+◌, ◌*◌, ◌<◌, ◌≤◌, List, length, set, ap, subst, inl, inr, arith}
use Rattle.std.specs.Prelude.{slice_index, sum}
use Rattle.std.proofs.lemmas.Bool.{cases_lt}
use Rattle.std.proofs.lemmas.List.{get_or-set_same, get_or-set_other, get_or_default}
use Rattle.std.proofs.lemmas.List.Sums.{sum_by-set, sum_by-le}
use Rattle.std.proofs.Math.Nat.{mul-le-mul_right}
use Rattle.linear_theory.proofs.Tables.{place_below, row_end}

pub place_in : (n i j m : ℕ) → i < n → j < n → m ≡ n * n → i * n + j < m
place_in n i j m li lj e = place_below n n i j m li lj e

-- a place is that of one pair
pub one_pair : (n i j p q : ℕ) → j < n → q < n → i * n + j ≡ p * n + q → (i ≡ p) × (j ≡ q)
one_pair n i j p q lj lq e = elim (cases_lt i p) [
  | inl u ↦ absurd (let w : i * n + n ≤ p * n = row_end p n i (p * n) u refl in omega arith)
  | inr u ↦ elim (cases_lt p i) [
    | inl v ↦ absurd (let w : p * n + n ≤ i * n = row_end i n p (i * n) v refl in omega arith)
    | inr v ↦
        let f : i ≡ p = omega arith in
        let k : i * n ≡ p * n = ap (λ (x : ℕ). x * n) f in
        (f, (let h : j ≡ q = omega arith in h))
  ]
]

pub set-same : (n : ℕ) (m : List ℕ) (i j x : ℕ) → i < n → j < n → length m ≡ n * n → slice_index (set m (i * n + j) x) (i * n + j) ≡ x
set-same n m i j x li lj e = get_or-set_same m (i * n + j) x 0 (place_in n i j (length m) li lj e)

pub set-other : (n : ℕ) (m : List ℕ) (i j x p q : ℕ) → j < n → q < n → (p ≡ i → q ≡ j → ⊥) → slice_index (set m (i * n + j) x) (p * n + q) ≡ slice_index m (p * n + q)
set-other n m i j x p q lj lq d =
    get_or-set_other m (i * n + j) (p * n + q) x 0 (λ e. let w = one_pair n p q i j lq lj e in d w.0 w.1)

-- a sum of numbers that are at most n each
pub sum_most : (n : ℕ) (xs : List ℕ) → ((p : ℕ) → p < length xs → slice_index xs p ≤ n) → sum xs ≤ length xs * n
sum_most n xs h = sum_by-le (λ x. x) n xs (λ k d l. subst (λ (x : ℕ). x ≤ n) (get_or_default xs k 0 d l) (h k l))

-- one of them grows by 1
pub sum_more : (xs : List ℕ) (i x : ℕ) → i < length xs → slice_index xs i ≡ x → sum (set xs i (x + 1)) ≡ sum xs + 1
sum_more xs i x l e = let f : sum (set xs i (x + 1)) + slice_index xs i ≡ sum xs + (x + 1) = sum_by-set (λ x. x) xs i (x + 1) 0 l in omega arith

pub square_small : (n : ℕ) → n ≤ 1024 → n * n ≤ 1048576
square_small n l = let u : n * n ≤ 1024 * n = mul-le-mul_right n l in omega arith
