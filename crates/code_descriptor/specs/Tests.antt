-- The tests by which the code finds the cause that refuses what stands at the keys. What a text means is said in
-- Meaning, in part by these words; that the tests find it is proved.
--
-- nat                   the natural number of an integer, and 0 of a negative one
-- is_from_to            whether an integer is from one number to another; fits_u32: from 0 to 2^32 - 1
-- plain_term            a term by its natural numbers; plain_point: a point
-- is_field              whether two integers are the bits and the modulus of a field
-- are_degrees           whether two integers are the weights of x and y of a curve
-- is_bad_named_term     whether a term is refused: i or j is negative or fits no u32, or the term is bad for a curve
-- is_affine             whether there is an affine space of so many variables; are_variables: the same of an integer
-- is_space_point        whether a point has as many numbers as the space has coordinates, they are symbols, and it is on the
--                       space
-- has_point             whether a point is among others
-- is_bad_point          whether a point is refused: MOST_POINTS stand before it, it is no point of the space, or an
--                       earlier one is the same
-- first_bad_term        the least bad term, and first_bad_point the least bad point
-- term_refusal          the least bad term, else a missing lead; point_refusal: the least bad point
-- space_refusal         the refusal of a space: bad degrees or that of the terms of a curve, or a bad number of variables
-- plain_curve           the equation of a curve, by natural numbers; plain_space: a space
-- plain_rule            a rule by its natural number; integer_of: its integer; rule_cause: the cause that refuses it
-- rule_refusal          the refusal of a rule whose integer is not 0 to MOST_NUMBER
-- packed_or             whether a layout is packed, and no where its string names none
-- parts                 what stands at the keys by natural numbers
-- refusals              the refusals of what stands at the keys, in order
use Rattle.std.specs.Prelude.{ℕ, ◌-◌, ◌^◌, ◌==◌, nat_le, ℤ, pos, negsuc, List, [], ◌∷◌, map, take, length, slice_index_or, Bool, false, not, ◌&&◌, ◌||◌, Option, is_none, option_map, unwrap_or}
use Rattle.std.specs.List.{list_any}
use Rattle.curve_theory.specs.declared.Term.{Term}
use Rattle.order_domain.specs.declared.Point.{Point}
use Rattle.order_domain.specs.declared.points.TheConstants.{MOST_POINTS}
use Rattle.weight_semi.specs.Generators.{are_generators}
use Rattle.cab_curve.specs.First.{when, first_of, least}
use Rattle.cab_curve.specs.Equation.{Equation, is_bad_term, misses_lead}
use Rattle.eval_basis.specs.declared.checked.CheckRule.{CheckRule}
use Rattle.eval_basis.specs.declared.checked.CheckRule.TheVariants as rule
use Rattle.code_descriptor.specs.declared.keys.NamedRule.{NamedRule}
use Rattle.code_descriptor.specs.declared.keys.NamedRule.TheVariants.{Weight, Improved}
use Rattle.code_descriptor.specs.declared.DescCause.{DescCause}
use Rattle.code_descriptor.specs.declared.DescCause.TheVariants.{BadField, BadSpace, BadDegrees, BadTerm, MissingLead, BadPoint, BadWeight, BadImproved, BadLayout, BadDepth}
use Rattle.ag_frame.specs.declared.frame.TheConstants.{MOST_DEPTH}
use Rattle.code_descriptor.specs.declared.TheConstants.{MOST_NUMBER}
use Rattle.code_descriptor.specs.FieldTest.{is_modulus}
use Rattle.code_descriptor.specs.Tree.{Named, NamedTerm, NamedPoint, NamedCurve, NamedSpace, OfCurve, OfVariables}
use Rattle.code_descriptor.specs.Parts.{Parts, Space, Cab, Affine, coordinates, is_on_space}

abbrev pub nat : ℤ → ℕ
nat (pos n) = n
nat (negsuc n) = 0

abbrev pub is_from_to : (low high : ℕ) → ℤ → Bool
is_from_to low high (pos n) = nat_le low n && nat_le n high
is_from_to low high (negsuc n) = false

abbrev pub fits_u32 : ℤ → Bool
fits_u32 z = is_from_to 0 4294967295 z

abbrev pub plain_term : NamedTerm → Term
plain_term t = record { i = nat t.i; j = nat t.j; c = nat t.c }

abbrev pub plain_point : NamedPoint → Point
plain_point p = record { x = nat p.x; y = nat p.y; z = nat p.z }

unfoldable pub is_field : (bits modulus : ℤ) → Bool
is_field bits modulus = (fits_u32 bits && fits_u32 modulus) && is_modulus (nat bits) (nat modulus)

unfoldable pub are_degrees : (a b : ℤ) → Bool
are_degrees a b = (fits_u32 a && fits_u32 b) && are_generators (nat a) (nat b)

abbrev pub named_term_at : List NamedTerm → ℕ → NamedTerm
named_term_at ts k = slice_index_or ts k (record { i = pos 0; j = pos 0; c = pos 0 })

abbrev pub named_point_at : List NamedPoint → ℕ → NamedPoint
named_point_at ps k = slice_index_or ps k (record { count = 0; x = pos 0; y = pos 0; z = pos 0 })

-- term k; a symbol is below `size`
unfoldable pub is_bad_named_term : (size a b : ℕ) → List NamedTerm → ℕ → Bool
is_bad_named_term size a b ts k =
    not (fits_u32 (named_term_at ts k).i && fits_u32 (named_term_at ts k).j)
    || is_bad_term size a b (map plain_term ts) k

-- three variables over at most 5 bits, or fewer
unfoldable pub is_affine : (bits vars : ℕ) → Bool
is_affine bits vars =
    ((nat_le 2 bits && nat_le bits 8) && (nat_le 1 vars && nat_le vars 3)) && (not (vars == 3) || nat_le bits 5)

unfoldable pub are_variables : ℕ → ℤ → Bool
are_variables bits z = fits_u32 z && is_affine bits (nat z)

unfoldable pub is_space_point : (bits modulus : ℕ) → Space → NamedPoint → Bool
is_space_point bits modulus s p =
    (p.count == coordinates s
    && ((is_from_to 0 (2 ^ bits - 1) p.x && is_from_to 0 (2 ^ bits - 1) p.y) && is_from_to 0 (2 ^ bits - 1) p.z))
    && is_on_space bits modulus s (plain_point p)

abbrev pub has_point : List Point → Point → Bool
has_point ps p = list_any (λ q. (q.x == p.x && q.y == p.y) && q.z == p.z) ps

-- point k
unfoldable pub is_bad_point : (bits modulus : ℕ) → Space → List NamedPoint → ℕ → Bool
is_bad_point bits modulus s ps k =
    (nat_le MOST_POINTS k || not (is_space_point bits modulus s (named_point_at ps k)))
    || has_point (map plain_point (take k ps)) (plain_point (named_point_at ps k))

abbrev pub first_bad_term : (size a b : ℕ) → List NamedTerm → Option ℕ
first_bad_term size a b ts = least (length ts) (is_bad_named_term size a b ts)

abbrev pub first_bad_point : (bits modulus : ℕ) → Space → List NamedPoint → Option ℕ
first_bad_point bits modulus s ps = least (length ps) (is_bad_point bits modulus s ps)

unfoldable pub term_refusal : (size a b : ℕ) → List NamedTerm → Option DescCause
term_refusal size a b ts = first_of (
    option_map BadTerm (first_bad_term size a b ts) ∷ when (misses_lead a b (map plain_term ts)) MissingLead ∷ [])

unfoldable pub space_refusal : ℕ → NamedSpace → Option DescCause
space_refusal bits (OfCurve c) = first_of (
    when (not (are_degrees c.a c.b)) BadDegrees ∷ term_refusal (2 ^ bits) (nat c.a) (nat c.b) c.terms ∷ [])
space_refusal bits (OfVariables z) = when (not (are_variables bits z)) BadSpace

unfoldable pub point_refusal : (bits modulus : ℕ) → Space → List NamedPoint → Option DescCause
point_refusal bits modulus s ps = option_map BadPoint (first_bad_point bits modulus s ps)

abbrev pub plain_curve : ℕ → NamedCurve → Equation
plain_curve bits c = record { bits = bits; a = nat c.a; b = nat c.b; terms = map plain_term c.terms }

abbrev pub plain_space : ℕ → NamedSpace → Space
plain_space bits (OfCurve c) = Cab (plain_curve bits c)
plain_space bits (OfVariables z) = Affine bits (nat z)

abbrev pub plain_rule : NamedRule → CheckRule
plain_rule (Weight z) = rule.AtMost (nat z)
plain_rule (Improved z) = rule.Small (nat z)

abbrev pub integer_of : NamedRule → ℤ
integer_of (Weight z) = z
integer_of (Improved z) = z

abbrev pub rule_cause : NamedRule → DescCause
rule_cause (Weight z) = BadWeight
rule_cause (Improved z) = BadImproved

abbrev pub rule_refusal : NamedRule → Option DescCause
rule_refusal r = when (not (is_from_to 0 MOST_NUMBER (integer_of r))) (rule_cause r)

abbrev pub packed_or : Option Bool → Bool
packed_or o = unwrap_or o false

abbrev pub parts : Named → Parts
parts n = record {
  bits = nat n.bits;
  modulus = nat n.modulus;
  space = plain_space (nat n.bits) n.space;
  points = map plain_point n.points;
  rule = plain_rule n.rule;
  depth = nat n.depth;
  packed = packed_or n.packed;
}

unfoldable pub refusals : Named → List (Option DescCause)
refusals n =
    when (not (is_field n.bits n.modulus)) BadField
    ∷ space_refusal (nat n.bits) n.space
    ∷ point_refusal (nat n.bits) (nat n.modulus) (plain_space (nat n.bits) n.space) n.points
    ∷ rule_refusal n.rule
    ∷ when (is_none n.packed) BadLayout
    ∷ when (not (is_from_to 1 MOST_DEPTH n.depth)) BadDepth
    ∷ []
