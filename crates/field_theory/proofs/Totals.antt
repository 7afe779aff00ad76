-- Sums over the numbers below n.
use Rattle.std.proofs.Common.{ℕ, zero, suc, ◌+◌, ◌≡◌, ◌<◌, ◌≤◌, Bool, true, false, cond, refl, ap, sym, inl, inr, arith, le_of_eq}
use Rattle.std.proofs.lemmas.Bool.{cases_eq, cond-false, false_from_ne_true}
use Rattle.field_theory.specs.Sums.{total, one_if, count_pairs}

pub total_same : (n : ℕ) (f g : ℕ → ℕ) → ((k : ℕ) → k < n → f k ≡ g k) → total n f ≡ total n g
total_same zero f g h = refl
total_same (suc n) f g h = omega (arith, total_same n f g (λ k l. h k (omega arith)), h n (omega arith))

pub total-le-total : (n : ℕ) (f g : ℕ → ℕ) → ((k : ℕ) → k < n → f k ≤ g k) → total n f ≤ total n g
total-le-total zero f g h = omega arith
total-le-total (suc n) f g h = omega (arith, total-le-total n f g (λ k l. h k (omega arith)), h n (omega arith))

pub total-add : (n : ℕ) (f g : ℕ → ℕ) → total n (λ k. f k + g k) ≡ total n f + total n g
total-add zero f g = refl
total-add (suc n) f g = omega (arith, total-add n f g)

pub total_zero : (n : ℕ) (f : ℕ → ℕ) → ((k : ℕ) → k < n → f k ≡ 0) → total n f ≡ 0
total_zero zero f h = refl
total_zero (suc n) f h = omega (arith, total_zero n f (λ k l. h k (omega arith)), h n (omega arith))

pub total_prefix : (m n : ℕ) (f : ℕ → ℕ) → m ≤ n → total m f ≤ total n f
total_prefix m zero f h = le_of_eq (ap (λ k. total k f) (let e : m ≡ 0 = omega arith in e))
total_prefix m (suc n) f h = elim (cases_eq m (suc n)) [ inl e ↦ le_of_eq (ap (λ k. total k f) e) | inr ne ↦ omega (arith, total_prefix m n f (omega arith)) ]

pub le-total : (n : ℕ) (f : ℕ → ℕ) (k : ℕ) → k < n → f k ≤ total n f
le-total n f k h = omega (arith, total_prefix (suc k) n f h)

pub total_swap : (n m : ℕ) (f : ℕ → ℕ → ℕ) → total n (λ i. total m (λ j. f i j)) ≡ total m (λ j. total n (λ i. f i j))
total_swap zero m f = sym (total_zero m (λ j. 0) (λ k l. refl))
total_swap (suc n) m f = omega (arith, total_swap n m f, total-add m (λ j. total n (λ i. f i j)) (f n))

-- a test that holds at most once below n adds its number at most once
pub total_once : (n c : ℕ) (p : ℕ → Bool) → ((k l : ℕ) → k < l → l < n → p k ≡ true → p l ≡ true → ⊥) → total n (λ k. cond (p k) c 0) ≤ c
total_once zero c p h = omega arith
total_once (suc n) c p h = go (p n) refl (total_once n c p (λ k l s t. h k l s (omega arith)))
  where
    go : (b : Bool) → p n ≡ b → total n (λ k. cond (p k) c 0) ≤ c → total n (λ k. cond (p k) c 0) + cond b c 0 ≤ c
    go true e i = omega (arith, total_zero n (λ k. cond (p k) c 0) (λ k l. cond-false (p k) c 0 (false_from_ne_true (p k) (λ t. h k n l (omega arith) t e))))
    go false e i = omega arith

pub total-le-four : (n : ℕ) (f a b c d : ℕ → ℕ) → ((k : ℕ) → k < n → f k ≤ a k + b k + c k + d k) → total n f ≤ total n a + total n b + total n c + total n d
total-le-four zero f a b c d h = omega arith
total-le-four (suc n) f a b c d h = omega (arith, total-le-four n f a b c d (λ k l. h k (omega arith)), h n (omega arith))

-- ---- over pairs
pub count-le-count : (n : ℕ) (p q : ℕ → ℕ → Bool) → ((i j : ℕ) → i < n → j < n → one_if (p i j) ≤ one_if (q i j)) → count_pairs n p ≤ count_pairs n q
unfolding count_pairs
count-le-count n p q h = total-le-total n _ _ (λ i k. total-le-total n _ _ (λ j l. h i j k l))

pub add-total-le : (n : ℕ) (f g h : ℕ → ℕ) → ((k : ℕ) → k < n → f k + g k ≤ h k) → total n f + total n g ≤ total n h
add-total-le zero f g h e = omega arith
add-total-le (suc n) f g h e = omega (arith, add-total-le n f g h (λ k l. e k (omega arith)), e n (omega arith))

pub count-add : (n : ℕ) (p q r : ℕ → ℕ → Bool) → ((i j : ℕ) → i < n → j < n → one_if (p i j) + one_if (q i j) ≤ one_if (r i j)) → count_pairs n p + count_pairs n q ≤ count_pairs n r
unfolding count_pairs
count-add n p q r h = add-total-le n _ _ _ (λ i k. add-total-le n _ _ _ (λ j l. h i j k l))

pub count_same : (n : ℕ) (p q : ℕ → ℕ → Bool) → ((i j : ℕ) → i < n → j < n → one_if (p i j) ≡ one_if (q i j)) → count_pairs n p ≡ count_pairs n q
unfolding count_pairs
count_same n p q h = total_same n _ _ (λ i k. total_same n _ _ (λ j l. h i j k l))
