-- The monomials in x, y and z that an affine space of 1 to 3 variables lists, where each coordinate has `size` values.
--
-- Monomial         the exponents of x, y and z
-- degree           their sum, the total degree
-- times            the product of two monomials
-- top_degree       the greatest degree that is listed: size - 1 for each variable
-- IsListed         the monomial has none but the space's variables, and at most the top degree
-- IsBefore         the order of the list: a smaller degree; or the same degree and a greater exponent of x; or both the
--                  same, and a greater exponent of y
-- triangle         1 + 2 + .. + n: the number of monomials in two variables of a degree below n
-- pyramid          the sum of the first n triangles: the number of monomials in three variables of a degree below n
-- below_degree     the number of monomials in so many variables of a degree below n
-- place            the index of a monomial: how many have a smaller degree, and how many of its own degree stand before
--                  it
-- greatest         the greatest number up to n that passes a test, or 0
-- degree_at        the degree of the monomial at an index
-- rest_at          the place of the monomial at an index among those of its degree
-- monomial_at      the monomial at an index
-- monomial_count   how many monomials the list has
--
-- The order is IsBefore. That place and monomial_at follow it, and are inverse to each other, is IsOrderedList of
-- specs/Order.
use Rattle.std.specs.Prelude.{◌≡◌, ◌⊎◌, ℕ, zero, suc, ◌+◌, ◌-◌, ◌*◌, ◌<◌, ◌≤◌, Bool, cond, leb}

pub record Monomial : Type 0 where
  pub x : ℕ
  pub y : ℕ
  pub z : ℕ

abbrev pub degree : Monomial → ℕ
degree m = m.x + m.y + m.z

abbrev pub times : Monomial → Monomial → Monomial
times m n = record { x = m.x + n.x; y = m.y + n.y; z = m.z + n.z }

abbrev pub top_degree : (size vars : ℕ) → ℕ
top_degree size vars = vars * (size - 1)

pub record IsListed (size vars : ℕ) (m : Monomial) : Type 0 where
  pub y_unused : vars < 2 → m.y ≡ 0
  pub z_unused : vars < 3 → m.z ≡ 0
  pub low : degree m ≤ top_degree size vars

abbrev pub IsBefore : Monomial → Monomial → Type 0
IsBefore m n = (degree m < degree n) ⊎ ((degree m ≡ degree n) × ((n.x < m.x) ⊎ ((n.x ≡ m.x) × (n.y < m.y))))

unfoldable pub triangle : ℕ → ℕ
triangle zero = 0
triangle (suc n) = triangle n + suc n

unfoldable pub pyramid : ℕ → ℕ
pyramid zero = 0
pyramid (suc n) = pyramid n + triangle (suc n)

-- of three variables or more, the number for three
unfoldable pub below_degree : (vars n : ℕ) → ℕ
below_degree zero n = 0
below_degree (suc zero) n = n
below_degree (suc (suc zero)) n = triangle n
below_degree (suc (suc (suc v))) n = pyramid n

-- of the monomials of one degree, those with a smaller y + z stand before, and of those with the same y + z the ones
-- with a smaller z
unfoldable pub place : (vars : ℕ) → Monomial → ℕ
place vars m = below_degree vars (degree m) + below_degree (vars - 1) (m.y + m.z) + below_degree (vars - 2) m.z

unfoldable pub greatest : ℕ → (ℕ → Bool) → ℕ
greatest zero test = 0
greatest (suc n) test = cond (test (suc n)) (suc n) (greatest n test)

-- the greatest degree d for which at most i monomials have a degree below d
unfoldable pub degree_at : (vars i : ℕ) → ℕ
degree_at vars i = greatest i (λ d. leb (below_degree vars d) i)

unfoldable pub rest_at : (vars i : ℕ) → ℕ
rest_at vars i = i - below_degree vars (degree_at vars i)

-- x + y + z is the degree, y + z that of the rest in one variable less, and z that of its rest in two less
unfoldable pub monomial_at : (vars i : ℕ) → Monomial
monomial_at vars i =
    let d = degree_at vars i in
    let s = degree_at (vars - 1) (rest_at vars i) in
    let z = degree_at (vars - 2) (rest_at (vars - 1) (rest_at vars i)) in
    record { x = d - s; y = s - z; z = z }

unfoldable pub monomial_count : (size vars : ℕ) → ℕ
monomial_count size vars = below_degree vars (top_degree size vars + 1)
