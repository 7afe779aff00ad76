-- Where all numbers below m pass a test, they come first among those that do.
use Rattle.std.proofs.Common.{◌≡◌, ℕ, zero, suc, ◌<◌, ◌≤◌, Bool, true, List, length, get_or, sym, subst, inl, inr, arith}
use Rattle.field_theory.proofs.Sums.{eq_or_below}
use Rattle.block_theory.proofs.Kept.{AreKept}

-- rising numbers are at least their index
rising-at_least : (xs : List ℕ) → ((i j : ℕ) → i < j → j < length xs → get_or xs i 0 < get_or xs j 0) → (i : ℕ) → i < length xs → i ≤ get_or xs i 0
rising-at_least xs h zero l = omega arith
rising-at_least xs h (suc i) l =
    let before : i ≤ get_or xs i 0 = rising-at_least xs h i (omega arith) in
    let more : get_or xs i 0 < get_or xs (suc i) 0 = h i (suc i) (omega arith) l in
    omega arith

-- where all numbers below m pass, they come first
front_next :
    (test : ℕ → Bool) (n : ℕ) (xs : List ℕ) (m : ℕ) → AreKept test n xs → m < n → test m ≡ true
    → ((i : ℕ) → i < m → (i < length xs) × (get_or xs i 0 ≡ i)) → (m < length xs) × (get_or xs m 0 ≡ m)
front_next test n xs m h few pass before =
    let (j, lj, at) = h.found m few pass in
    let low : j ≤ get_or xs j 0 = rising-at_least xs h.rise j lj in
    let same : j ≡ m = elim (eq_or_below j m (omega arith)) [
      | inl d ↦ d
      | inr b ↦ (let c : get_or xs j 0 ≡ j = (before j b).1 in absurd (omega arith))
    ] in
    subst (λ (k : ℕ). (k < length xs) × (get_or xs k 0 ≡ m)) same (lj, at)

pub front_kept : (test : ℕ → Bool) (n : ℕ) (xs : List ℕ) (m : ℕ) → AreKept test n xs → m ≤ n → ((q : ℕ) → q < m → test q ≡ true) → (i : ℕ) → i < m → (i < length xs) × (get_or xs i 0 ≡ i)
front_kept test n xs zero h few all i l = absurd (omega arith)
front_kept test n xs (suc m) h few all i l = elim (eq_or_below i m l) [
  | inl d ↦
      subst (λ (k : ℕ). (k < length xs) × (get_or xs k 0 ≡ k)) (sym d)
      (front_next test n xs m h (omega arith) (all m (omega arith)) (front_kept test n xs m h (omega arith) (λ q k. all q (omega arith))))
  | inr b ↦ front_kept test n xs m h (omega arith) (λ q k. all q (omega arith)) i b
]
