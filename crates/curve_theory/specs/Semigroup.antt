-- The numerical semigroup that a and b generate, and the functions of a curve by rising weight.
--
-- first_below       the least number below n that passes a test, or n
-- IsMember          a number is a sum of a's and b's
-- y_exponent        the j below a with which w is a·i + b·j, or a where there is none; x_exponent the i
-- is_member         whether w is a member
-- is_pair           whether u and w - u are members
-- pairs             how many ordered pairs of members have the sum w
-- next_member       the least member above w
-- at_place          the number with place i among those below n that pass a test
-- function_count    how many functions there are: one for each member up to top
-- weight_at         the weight of function i
-- place_of          the place of the function of weight w
-- sum_of            the function whose weight is the sum of the weights of i and j, if it is at most top
use Rattle.std.specs.Prelude.{◌≡◌, ℕ, zero, suc, ◌+◌, ◌-◌, ◌*◌, ◌/◌, ◌%◌, Bool, cond, eqb, ltb, leb, ◌&&◌, Option, Some, None}
use Rattle.field_theory.specs.Sums.{count_below}

-- the least k below n with p k, or n where there is none
abbrev pub first_below : ℕ → (ℕ → Bool) → ℕ
first_below zero p = 0
first_below (suc n) p = cond (p 0) 0 (suc (first_below n (λ k. p (suc k))))

-- w is a sum of a's and b's
pub record IsMember (a b w : ℕ) : Type 0 where
  pub i : ℕ
  pub j : ℕ
  pub is_sum : w ≡ a * i + b * j

-- the j below a with which w is a·i + b·j for some i, or a where there is none
unfoldable pub y_exponent : (a b w : ℕ) → ℕ
y_exponent a b w = first_below a (λ j. leb (b * j) w && eqb ((w - b * j) % a) 0)

unfoldable pub x_exponent : (a b w : ℕ) → ℕ
x_exponent a b w = (w - b * y_exponent a b w) / a

-- whether w is a member
unfoldable pub is_member : (a b w : ℕ) → Bool
is_member a b w = ltb (y_exponent a b w) a

-- whether u and w - u are members
unfoldable pub is_pair : (a b w u : ℕ) → Bool
is_pair a b w u = is_member a b u && is_member a b (w - u)

-- how many ordered pairs of members have the sum w
unfoldable pub pairs : (a b w : ℕ) → ℕ
pairs a b w = count_below (w + 1) (is_pair a b w)

-- the least member above w
unfoldable pub next_member : (a b w : ℕ) → ℕ
next_member a b w = w + 1 + first_below a (λ k. is_member a b (w + 1 + k))

-- the number with place i among the k below n with p k
unfoldable pub at_place : ℕ → (ℕ → Bool) → ℕ → ℕ
at_place n p i = first_below n (λ k. ltb i (count_below (suc k) p))

-- The functions of the curve are the normal monomials whose weights are the members up to top, by rising weight.
-- How many there are, the weight of function i, and the place of the function of weight w
unfoldable pub function_count : (a b top : ℕ) → ℕ
function_count a b top = count_below (top + 1) (is_member a b)

unfoldable pub weight_at : (a b top i : ℕ) → ℕ
weight_at a b top i = at_place (top + 1) (is_member a b) i

unfoldable pub place_of : (a b w : ℕ) → ℕ
place_of a b w = count_below w (is_member a b)

-- the function whose weight is the sum of the weights of i and j
unfoldable pub sum_of : (a b top i j : ℕ) → Option ℕ
sum_of a b top i j =
    cond (leb (weight_at a b top i + weight_at a b top j) top) (Some (place_of a b (weight_at a b top i + weight_at a b top j))) None
