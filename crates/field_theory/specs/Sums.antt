-- xor_sum        the field sum of g p over the p below n
-- total          the sum of f i over the i below n, as numbers
-- one_if         1 where a test holds, else 0
-- count_below    how many of the numbers below n pass a test
-- count_pairs    how many pairs (i, j), both below n, pass a test
-- any_below      whether some number below n passes a test
-- all_below      whether all numbers below n pass a test
-- put            a function with another value at one place
-- unit           the function that is 1 at one place and 0 elsewhere
use Rattle.std.specs.Prelude.{ℕ, zero, suc, ◌+◌, bit_xor, Bool, true, false, cond, eqb, ◌&&◌, ◌||◌}

abbrev pub xor_sum : ℕ → (ℕ → ℕ) → ℕ
xor_sum zero g = 0
xor_sum (suc n) g = bit_xor (xor_sum n g) (g n)

abbrev pub total : ℕ → (ℕ → ℕ) → ℕ
total zero f = 0
total (suc n) f = total n f + f n

abbrev pub one_if : Bool → ℕ
one_if b = cond b 1 0

abbrev pub count_below : ℕ → (ℕ → Bool) → ℕ
count_below zero p = 0
count_below (suc n) p = count_below n p + cond (p n) 1 0

unfoldable pub count_pairs : ℕ → (ℕ → ℕ → Bool) → ℕ
count_pairs n p = total n (λ i. total n (λ j. one_if (p i j)))

abbrev pub any_below : ℕ → (ℕ → Bool) → Bool
any_below zero p = false
any_below (suc n) p = any_below n p || p n

abbrev pub all_below : ℕ → (ℕ → Bool) → Bool
all_below zero p = true
all_below (suc n) p = all_below n p && p n

abbrev pub put : (ℕ → ℕ) → ℕ → ℕ → ℕ → ℕ
put f k x i = cond (eqb i k) x (f i)

abbrev pub unit : ℕ → ℕ → ℕ
unit k = put (λ i. 0) k 1
