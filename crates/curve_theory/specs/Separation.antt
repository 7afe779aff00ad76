-- times_plus                a polynomial times x^i·y^j + c
-- times_product             a polynomial times the product of x^i·y^j + g k over the k below n that pass a test
-- without                   a test that passes what another one passes, except one number
-- separating_product        the product of x + c, over all c but the x of point t, and of y + d, over the d but its own that
--                           stand with the same x among n points: it is 0 at each of the points but t
-- separating_coefficient    the coefficient at a weight of the multiple of it that is 1 at point t
use Rattle.std.specs.Prelude.{ℕ, zero, suc, Bool, true, List, [], ◌∷◌, ◌++◌, cond, eqb, ◌&&◌, not}
use Rattle.curve_theory.specs.Curve.{Term, value}
use Rattle.curve_theory.specs.Normal.{weight_coefficient, inverse_of, times_monomial}

abbrev pub times_plus : (mul : ℕ → ℕ → ℕ) (i j c : ℕ) → List Term → List Term
times_plus mul i j c ts = times_monomial mul i j 1 ts ++ times_monomial mul 0 0 c ts

abbrev pub times_product : (mul : ℕ → ℕ → ℕ) (i j : ℕ) (g : ℕ → ℕ) (p : ℕ → Bool) → ℕ → List Term → List Term
times_product mul i j g p zero ts = ts
times_product mul i j g p (suc n) ts = cond (p n) (times_plus mul i j (g n) (times_product mul i j g p n ts)) (times_product mul i j g p n ts)

unfoldable pub without : (q : ℕ → Bool) → ℕ → ℕ → Bool
without q t k = q k && not (eqb k t)

-- the points are (xs k, ys k), for k below n
unfoldable pub separating_product : (size : ℕ) (mul : ℕ → ℕ → ℕ) (n : ℕ) (xs ys : ℕ → ℕ) (t : ℕ) → List Term
separating_product size mul n xs ys t =
    times_product mul 0 1 ys (without (λ k. eqb (xs k) (xs t)) t) n
    (times_product mul 1 0 (λ c. c) (without (λ c. true) (xs t)) size (record { i = 0; j = 0; c = 1 } ∷ []))

unfoldable pub separating_coefficient : (size : ℕ) (mul : ℕ → ℕ → ℕ) (a b n : ℕ) (xs ys : ℕ → ℕ) (t w : ℕ) → ℕ
separating_coefficient size mul a b n xs ys t w =
    weight_coefficient a b
    (times_monomial mul 0 0 (inverse_of size mul (value mul (separating_product size mul n xs ys t) (xs t) (ys t))) (separating_product size mul n xs ys t)) w
