-- coefficient_at     the coefficient at a weight in a list of normal terms, 0 where it has none
-- IsNormalList       the weights rise, and no coefficient is 0
-- IsRaised           a list has the coefficients of another one, at weights raised by a number
-- power_product      x^i·y^j, as a polynomial
-- IsNormalOf         a list is the normal form of x^i·y^j on a curve, and the only such list
use Rattle.std.specs.Prelude.{ℕ, ◌≡◌, ◌≢◌, ◌-◌, ◌<◌, ◌^◌, List, [], ◌∷◌, slice_index, cond, eqb, leb, All, AllPairs}
use Rattle.gf_theory.specs.Field.{gf_mul}
use Rattle.curve_theory.specs.Polynomial.{one, IsNormalForm}
use Rattle.cab_curve.specs.Equation.{Equation}
use Rattle.cab_curve.specs.declared.normal.NormTerm.{NormTerm}

abbrev pub coefficient_at : List NormTerm → ℕ → ℕ
coefficient_at [] w = 0
coefficient_at (t ∷ ts) w = cond (eqb t.weight w) t.c (coefficient_at ts w)

pub record IsNormalList (ts : List NormTerm) : Type 0 where
  pub rising : AllPairs (λ s t. s.weight < t.weight) ts
  pub not_zero : All (λ t. t.c ≢ 0) ts

pub record IsRaised (shift : ℕ) (coefficients : List ℕ) (ts : List NormTerm) : Type 0 where
  pub values : (w : ℕ) → coefficient_at ts w ≡ cond (leb shift w) (slice_index coefficients (w - shift)) 0

abbrev pub power_product : ℕ → ℕ → ℕ → ℕ → ℕ
power_product i j = one (record { i = i; j = j; c = 1 })

pub record IsNormalOf (e : Equation) (modulus i j : ℕ) (ts : List NormTerm) : Type 0 where
  pub is_list : IsNormalList ts
  pub is_form : IsNormalForm (2 ^ e.bits) (gf_mul e.bits modulus) e.a e.b e.terms (power_product i j) (coefficient_at ts)
  pub only : (other : List NormTerm) → IsNormalList other →
      IsNormalForm (2 ^ e.bits) (gf_mul e.bits modulus) e.a e.b e.terms (power_product i j) (coefficient_at other) → other ≡ ts
