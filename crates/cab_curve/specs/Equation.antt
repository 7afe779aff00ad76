-- Equation          what is seen of a curve: the bits of a symbol, the weights a and b of x and y, and the terms
-- IsCurve           it is a C_ab equation over symbols of 2 to 8 bits, and a and b are 2 to 32
-- term_at           the term at a place of a list, and beyond its end the term 0
-- is_bad_term       whether a term is refused: its coefficient is no symbol other than 0, its weight is above a·b, or an
--                   earlier term has its exponents
-- misses_lead       whether there is no term y^a or no term x^b
-- curve_refusal     why the terms are refused, the first cause in this order: the degrees, the first bad term, a missing lead
use Rattle.std.specs.Prelude.{ℕ, ◌+◌, ◌*◌, ◌^◌, ◌≤◌, Bool, not, ◌&&◌, ◌||◌, nat_lt, List, [], ◌∷◌, length, take, slice_index_or, Option, option_map}
use Rattle.curve_theory.specs.declared.Term.{Term}
use Rattle.curve_theory.specs.Curve.{has_term, IsEquation}
use Rattle.weight_semi.specs.Generators.{AreGenerators, are_generators}
use Rattle.cab_curve.specs.First.{when, first_of, least}
use Rattle.cab_curve.specs.declared.equation.CurveFault.{CurveFault}
use Rattle.cab_curve.specs.declared.equation.CurveFault.TheVariants.{BadDegrees, BadTerm, MissingLead}

pub record Equation : Type 0 where
  pub bits : ℕ
  pub a : ℕ
  pub b : ℕ
  pub terms : List Term

pub record IsCurve (e : Equation) : Type 0 where
  pub bits_least : 2 ≤ e.bits
  pub bits_most : e.bits ≤ 8
  pub generators : AreGenerators e.a e.b
  pub equation : IsEquation (2 ^ e.bits) e.a e.b e.terms

abbrev pub term_at : List Term → ℕ → Term
term_at ts k = slice_index_or ts k (record { i = 0; j = 0; c = 0 })

-- term k; a symbol is below `size`
unfoldable pub is_bad_term : (size a b : ℕ) → List Term → ℕ → Bool
is_bad_term size a b ts k =
    let t = term_at ts k in
    (not (nat_lt 0 t.c && nat_lt t.c size) || nat_lt (a * b) (a * t.i + b * t.j)) || has_term (take k ts) t.i t.j

abbrev pub misses_lead : (a b : ℕ) → List Term → Bool
misses_lead a b ts = not (has_term ts 0 a && has_term ts b 0)

unfoldable pub curve_refusal : (size a b : ℕ) → List Term → Option CurveFault
curve_refusal size a b ts = first_of (
    when (not (are_generators a b)) BadDegrees
    ∷ option_map BadTerm (least (length ts) (is_bad_term size a b ts))
    ∷ when (misses_lead a b ts) MissingLead
    ∷ [])
