-- How many ordered pairs of members have a sum, in closed form: a pair is a place of x and a place of y
use Rattle.std.proofs.Common.{◌≡◌, ◌≢◌, ◌⊎◌, ℕ, zero, suc, ◌+◌, ◌-◌, ◌*◌, ◌<◌, ◌≤◌, Bool, true, false, eqb, ltb, ◌&&◌, sym, ◌∙◌, ap, refl, inl, inr, arith, mul-le-mul_right}
use Rattle.std.proofs.lemmas.Bool.{cases_lt, cases_Bool, and_parts, and_from, and_left, and_right, ltb-true, lt-ltb, le-ltb, eq-eqb, ne_eqb, cond-true, cond-false, both_ways, false_from_ne_true}
use Rattle.std.specs.Int.{IsGcd}
use Rattle.field_theory.specs.Sums.{total, one_if, count_below}
use Rattle.field_theory.proofs.Totals.{total_same, total_swap, total_zero}
use Rattle.field_theory.proofs.Sums.{eq_or_below}
use Rattle.curve_theory.specs.Semigroup.{is_member, x_exponent, y_exponent, is_pair, pairs}
use Rattle.curve_theory.proofs.Semigroup.{exponents_unique, is_member-weight, weight-exponents, y_exponent-lt, is_member-add}

-- sums of which one place counts, and counts of what holds below a number
total_only : (n : ℕ) (f : ℕ → ℕ) (k : ℕ) → k < n → ((i : ℕ) → i < n → i ≢ k → f i ≡ 0) → total n f ≡ f k
total_only zero f k l h = absurd (omega arith)
total_only (suc n) f k l h =
    elim (eq_or_below k n l) [
      | inl e ↦
          let rest : total n f ≡ 0 = total_zero n f (λ i m. h i (omega arith) (omega arith)) in
          let last : f n ≡ f k = ap f (sym e) in
          omega arith
      | inr below ↦
          let rest : total n f ≡ f k = total_only n f k below (λ i m. h i (omega arith)) in
          let last : f n ≡ 0 = h n (omega arith) (omega arith) in
          omega arith
    ]

total-one_if : (n : ℕ) (p : ℕ → Bool) → total n (λ k. one_if (p k)) ≡ count_below n p
total-one_if zero p = refl
total-one_if (suc n) p = ap (λ z. z + one_if (p n)) (total-one_if n p)

-- a test that holds exactly below m
count_front : (n m : ℕ) (p : ℕ → Bool) → m ≤ n → ((i : ℕ) → i < m → p i ≡ true) → ((i : ℕ) → i < n → m ≤ i → p i ≡ false) → count_below n p ≡ m
count_front zero m p l here past = omega arith
count_front (suc n) m p l here past =
    elim (cases_lt n m) [
      | inl below ↦
          let rest : count_below n p ≡ n = count_front n n p (omega arith) (λ i k. here i (omega arith)) (λ i k h. absurd (omega arith)) in
          let last : one_if (p n) ≡ 1 = cond-true (p n) 1 0 (here n below) in
          omega arith
      | inr above ↦
          let rest : count_below n p ≡ m = count_front n m p above here (λ i k h. past i (omega arith) h) in
          let last : one_if (p n) ≡ 0 = cond-false (p n) 1 0 (past n (omega arith) above) in
          omega arith
    ]

total-same_number : (n p : ℕ) (f : ℕ → ℕ) → ((k : ℕ) → k < n → f k ≡ p) → total n f ≡ n * p
total-same_number zero p f h = omega arith
total-same_number (suc n) p f h =
    let rest : total n f ≡ n * p = total-same_number n p f (λ k l. h k (omega arith)) in
    let last : f n ≡ p = h n (omega arith) in
    omega arith

-- one number below y, another from y on
total-two_numbers : (d y p q : ℕ) (f : ℕ → ℕ) → ((k : ℕ) → k < y → f k ≡ p) → ((k : ℕ) → y ≤ k → k < d + y → f k ≡ q) → total (d + y) f ≡ y * p + d * q
total-two_numbers zero y p q f low high =
    let e : 0 + y ≡ y = omega arith in
    let s : total y f ≡ y * p = total-same_number y p f low in
    ap (λ n. total n f) e ∙ s ∙ omega arith
total-two_numbers (suc d) y p q f low high =
    let e : suc d + y ≡ suc (d + y) = omega arith in
    let rest : total (d + y) f ≡ y * p + d * q = total-two_numbers d y p q f low (λ k l m. high k l (omega arith)) in
    let last : f (d + y) ≡ q = high (d + y) (omega arith) (omega arith) in
    ap (λ n. total n f) e ∙ (let s : total (d + y) f + f (d + y) ≡ y * p + suc d * q = omega arith in s)

-- what follows is about a member w = a·x + b·y
module _ (a b w x y : ℕ) (coprime : IsGcd a b 1) (y_below : y < a) (weight : a * x + b * y ≡ w) where
  -- (i, j) are the exponents of the first of a pair
  IsFirst : ℕ → ℕ → Type 0
  IsFirst i j = (a * i + b * j ≤ w) × (is_member a b (w - (a * i + b * j)) ≡ true)

  first_low : (i j : ℕ) → j ≤ y → i ≤ x → IsFirst i j
  unfolding IsFirst
  first_low i j lj li =
      let d : ℕ = x - i in
      let e : ℕ = y - j in
      let sx : x ≡ i + d = omega arith in
      let sy : y ≡ j + e = omega arith in
      let px : a * x ≡ a * i + a * d = ap (λ z. a * z) sx ∙ omega arith in
      let py : b * y ≡ b * j + b * e = ap (λ z. b * z) sy ∙ omega arith in
      let rest : w - (a * i + b * j) ≡ a * d + b * e = omega arith in
      (omega arith, ap (is_member a b) rest ∙ is_member-weight a b d e (omega arith))

  first_high : (i j : ℕ) → j < a → y < j → i + b ≤ x → IsFirst i j
  unfolding IsFirst
  first_high i j below lj li =
      let d : ℕ = x - (i + b) in
      let e : ℕ = (y + a) - j in
      let sx : x ≡ i + b + d = omega arith in
      let sy : y + a ≡ j + e = omega arith in
      let px : a * x ≡ a * i + a * b + a * d = ap (λ z. a * z) sx ∙ omega arith in
      let py : b * y + a * b ≡ b * j + b * e = (let s : b * y + a * b ≡ b * (y + a) = omega arith in s) ∙ ap (λ z. b * z) sy ∙ omega arith in
      let rest : w - (a * i + b * j) ≡ a * d + b * e = omega arith in
      (omega arith, ap (is_member a b) rest ∙ is_member-weight a b d e (omega arith))

  -- where the exponents of the two are (i, j) and (k, l)
  sum_of_parts : (i j k l : ℕ) → j < a → l < a → a * i + b * j + (a * k + b * l) ≡ w → ((j ≤ y) × (i ≤ x)) ⊎ ((y < j) × (i + b ≤ x))
  sum_of_parts i j k l lj ll e =
      elim (cases_lt (j + l) a) [
        | inl small ↦
            let s : a * (i + k) + b * (j + l) ≡ a * x + b * y = (let t : a * (i + k) + b * (j + l) ≡ w = omega arith in t) ∙ sym weight in
            let u = exponents_unique a b (i + k) (j + l) x y coprime small y_below s in
            inl (omega arith, omega arith)
        | inr large ↦
            let r : ℕ = j + l - a in
            let f : b * (j + l) ≡ a * b + b * r = ap (λ z. b * z) (let t : j + l ≡ a + r = omega arith in t) ∙ omega arith in
            let s : a * (i + k + b) + b * r ≡ a * x + b * y = (let t : a * (i + k + b) + b * r ≡ w = omega arith in t) ∙ sym weight in
            let u = exponents_unique a b (i + k + b) r x y coprime (omega arith) y_below s in
            inr (omega arith, omega arith)
      ]

  first_parts : (i j : ℕ) → j < a → IsFirst i j → ((j ≤ y) × (i ≤ x)) ⊎ ((y < j) × (i + b ≤ x))
  unfolding IsFirst
  first_parts i j lj h =
      let v : ℕ = w - (a * i + b * j) in
      let e : a * x_exponent a b v + b * y_exponent a b v ≡ v = weight-exponents a b v h.1 in
      let le : a * i + b * j ≤ w = h.0 in
      sum_of_parts i j (x_exponent a b v) (y_exponent a b v) lj (y_exponent-lt a b v h.1) (omega arith)

  x_within : x ≤ w
  x_within = let h : 1 * x ≤ a * x = mul-le-mul_right x (omega arith) in omega arith

  -- whether (i, j) are the exponents of the first of a pair
  is_first : ℕ → ℕ → Bool
  is_first j i = ltb (a * i + b * j) (w + 1) && is_pair a b w (a * i + b * j)

  is_first-from : (i j : ℕ) → j < a → IsFirst i j → is_first j i ≡ true
  unfolding IsFirst is_first is_pair
  is_first-from i j lj h =
      let u : ℕ = a * i + b * j in
      let le : u ≤ w = h.0 in
      and_from (ltb u (w + 1)) (is_member a b u && is_member a b (w - u)) (lt-ltb u (w + 1) (omega arith))
      (and_from (is_member a b u) (is_member a b (w - u)) (is_member-weight a b i j lj) h.1)

  is_first-to : (i j : ℕ) → is_first j i ≡ true → IsFirst i j
  unfolding IsFirst is_first is_pair
  is_first-to i j h =
      let u : ℕ = a * i + b * j in
      let parts = and_parts (ltb u (w + 1)) (is_member a b u && is_member a b (w - u)) h in
      let lt : u < w + 1 = ltb-true u (w + 1) parts.0 in
      (omega arith, (and_parts (is_member a b u) (is_member a b (w - u)) parts.1).1)

  count_low : (j : ℕ) → j < y + 1 → count_below (w + 1) (is_first j) ≡ x + 1
  count_low j lj =
      let within : x ≤ w = x_within in
      count_front (w + 1) (x + 1) (is_first j) (omega arith)
      (λ i l. is_first-from i j (omega arith) (first_low i j (omega arith) (omega arith)))
      (λ i k l. false_from_ne_true (is_first j i) (λ h. elim (first_parts i j (omega arith) (is_first-to i j h)) [
        | inl p ↦ let q : i ≤ x = p.1 in absurd (omega arith)
        | inr p ↦ let q : y < j = p.0 in absurd (omega arith)
      ]))

  count_high : (j : ℕ) → y + 1 ≤ j → j < a → count_below (w + 1) (is_first j) ≡ x + 1 - b
  count_high j lj below =
      let within : x ≤ w = x_within in
      count_front (w + 1) (x + 1 - b) (is_first j) (omega arith)
      (λ i l. is_first-from i j below (first_high i j below (omega arith) (omega arith)))
      (λ i k l. false_from_ne_true (is_first j i) (λ h. elim (first_parts i j below (is_first-to i j h)) [
        | inl p ↦ let q : j ≤ y = p.0 in absurd (omega arith)
        | inr p ↦ let q : i + b ≤ x = p.1 in absurd (omega arith)
      ]))

  -- u is the first of a pair, with the exponents (i, j)
  first_at : ℕ → ℕ → ℕ → ℕ
  first_at u j i = one_if (eqb (a * i + b * j) u && is_pair a b w u)

  first_at-no : (u j i : ℕ) → (a * i + b * j ≡ u → ⊥) → first_at u j i ≡ 0
  unfolding first_at
  first_at-no u j i h =
      cond-false (eqb (a * i + b * j) u && is_pair a b w u) 1 0 (and_left (eqb (a * i + b * j) u) (is_pair a b w u) (ne_eqb (a * i + b * j) u h))

  -- each first of a pair has one pair of exponents
  one_place : (u : ℕ) → u < w + 1 → total a (λ j. total (w + 1) (λ i. first_at u j i)) ≡ one_if (is_pair a b w u)
  unfolding first_at is_pair
  one_place u below =
      elim (cases_Bool (is_pair a b w u)) [
        | inl e ↦
            let member : is_member a b u ≡ true = (and_parts (is_member a b u) (is_member a b (w - u)) e).0 in
            let i : ℕ = x_exponent a b u in
            let j : ℕ = y_exponent a b u in
            let lj : j < a = y_exponent-lt a b u member in
            let s : a * i + b * j ≡ u = weight-exponents a b u member in
            let small : 1 * i ≤ a * i = mul-le-mul_right i (omega arith) in
            let only : (k l : ℕ) → l < a → a * k + b * l ≡ u → (k ≡ i) × (l ≡ j) = λ k l ll f. exponents_unique a b k l i j coprime ll lj (f ∙ sym s) in
            total_only a (λ l. total (w + 1) (λ k. first_at u l k)) j lj
            (λ l ll other. total_zero (w + 1) (λ k. first_at u l k) (λ k lk. first_at-no u l k (λ f. other (only k l ll f).1)))
            ∙ total_only (w + 1) (λ k. first_at u j k) i (omega arith)
            (λ k lk other. first_at-no u j k (λ f. other (only k j lj f).0))
            ∙ ap one_if (ap (λ t. t && is_pair a b w u) (eq-eqb (a * i + b * j) u s))
        | inr e ↦
            total_zero a (λ j. total (w + 1) (λ i. first_at u j i))
            (λ j lj. total_zero (w + 1) (λ i. first_at u j i)
            (λ i li. cond-false (eqb (a * i + b * j) u && is_pair a b w u) 1 0 (and_right (eqb (a * i + b * j) u) (is_pair a b w u) e)))
            ∙ sym (cond-false (is_pair a b w u) 1 0 e)
      ]

  -- each pair of exponents is that of one number
  one_number : (j i : ℕ) → total (w + 1) (λ u. first_at u j i) ≡ one_if (is_first j i)
  unfolding first_at is_first
  one_number j i =
      let v : ℕ = a * i + b * j in
      elim (cases_lt v (w + 1)) [
        | inl l ↦
            total_only (w + 1) (λ u. first_at u j i) v l (λ u lu other. first_at-no u j i (λ e. other (sym e)))
            ∙ ap one_if (ap (λ t. t && is_pair a b w v) (eq-eqb v v refl ∙ sym (lt-ltb v (w + 1) l)))
        | inr l ↦
            total_zero (w + 1) (λ u. first_at u j i) (λ u lu. first_at-no u j i (λ e. omega arith))
            ∙ sym (cond-false (ltb v (w + 1) && is_pair a b w v) 1 0 (and_left (ltb v (w + 1)) (is_pair a b w v) (le-ltb v (w + 1) l)))
      ]

  pub pairs-closed : pairs a b w ≡ (y + 1) * (x + 1) + (a - (y + 1)) * (x + 1 - b)
  unfolding pairs
  pairs-closed =
      let n : ℕ = w + 1 in
      let split : a ≡ a - (y + 1) + (y + 1) = omega arith in
      sym (total-one_if n (is_pair a b w))
      ∙ total_same n (λ u. one_if (is_pair a b w u)) (λ u. total a (λ j. total n (λ i. first_at u j i))) (λ u l. sym (one_place u l))
      ∙ total_swap n a (λ u j. total n (λ i. first_at u j i))
      ∙ total_same a (λ j. total n (λ u. total n (λ i. first_at u j i))) (λ j. count_below n (is_first j))
      (λ j l. total_swap n n (λ u i. first_at u j i)
      ∙ total_same n (λ i. total n (λ u. first_at u j i)) (λ i. one_if (is_first j i)) (λ i k. one_number j i)
      ∙ total-one_if n (is_first j))
      ∙ ap (λ k. total k (λ j. count_below n (is_first j))) split
      ∙ total-two_numbers (a - (y + 1)) (y + 1) (x + 1) (x + 1 - b) (λ j. count_below n (is_first j)) count_low (λ j l m. count_high j l (omega arith))

-- a number that is no member is the sum of no pair
pub pairs-no_member : (a b w : ℕ) → 0 < a → is_member a b w ≡ false → pairs a b w ≡ 0
unfolding pairs is_pair
pairs-no_member a b w pos none =
    count_front (w + 1) 0 (is_pair a b w) (omega arith) (λ i l. absurd (omega arith))
    (λ u l k. false_from_ne_true (is_pair a b w u) (λ h.
    let both = and_parts (is_member a b u) (is_member a b (w - u)) h in
    let s : u + (w - u) ≡ w = omega arith in
    both_ways (is_member a b w) none (ap (is_member a b) (sym s) ∙ is_member-add a b u (w - u) pos both.0 both.1)))
