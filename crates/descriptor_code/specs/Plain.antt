-- The code of a descriptor, plainly: which functions are new at its points, which of them are checked, and what follows.
-- Everything is said over the parts that a text describes (`Parts` of code_descriptor), and of the space only its functions
-- are used (`Functions` of order_domain, `cab_functions` of cab_curve, `affine_functions` of affine_domain). A function is named by its index, a position is the
-- place of a point in the list. Source: T. Høholdt, J. H. van Lint, R. Pellikaan, "Algebraic geometry codes", in the
-- Handbook of Coding Theory, 1998.
--
-- functions_on     the functions of a space
-- functions_in     the functions of a descriptor's space
-- times_in         the product of the field
-- values, value    the values of function i at the points, position by position, and the one at position q
-- is_new           whether they are no combination of the values of the functions before it
-- members          the functions that are new at the points, by rising index; they are as many as the points
-- pairs_of         how many ordered pairs of functions have the sum i
-- is_checked       whether the rule checks function i, by its label or by its pairs
-- checked, free    the members that are checked, and those that are not
-- IsFull           no member is free
-- checks           the parity checks: the values of each checked member. The code is the lists that are orthogonal to these
-- least_of         the least number of a list, 0 of none
-- bound            the order bound: the least number of pairs of a free member. Codewords differ in at least so many places
-- radius           the greatest t with 2t below the bound
-- plain_form       the code as coded files see it: words and nears of the checks and the radius, in groups and layout
-- labels           the labels of the members
-- checked_labels   the labels of the checked members
-- IsRelation       the normal form of y^a on a curve, and none on an affine space
--
-- What the candidates of an error say, and the table of the bound, are in Tables.
use Rattle.std.specs.Prelude.{◌≡◌, ℕ, ◌-◌, ◌/◌, ◌^◌, min, Bool, not, Option, Some, None, List, [], ◌∷◌, length, map, filter, slice_index}
use Rattle.std.specs.List.{range_with_len}
use Rattle.gf_theory.specs.Field.{gf_mul}
use Rattle.linear_theory.specs.Linear.{in_span}
use Rattle.stored_form.specs.Form.{Form, at_layout}
use Rattle.block_theory.specs.Checks.{ParityChecks}
use Rattle.block_theory.specs.Blocks.{form_of}
use Rattle.order_domain.specs.Functions as functions
use Rattle.order_domain.specs.Functions.{Functions, pair_count}
use Rattle.cab_curve.specs.Domain.{cab_functions}
use Rattle.affine_domain.specs.Domain.{affine_functions}
use Rattle.cab_curve.specs.NormalForms.{IsNormalOf}
use Rattle.cab_curve.specs.declared.normal.NormTerm.{NormTerm}
use Rattle.eval_basis.specs.Rules.{rule_checks}
use Rattle.code_descriptor.specs.Parts.{Parts, Space, Cab, Affine}

abbrev pub functions_on : Space → Functions
functions_on (Cab e) = cab_functions e
functions_on (Affine bits vars) = affine_functions bits vars

abbrev pub functions_in : Parts → Functions
functions_in p = functions_on p.space

abbrev pub times_in : Parts → ℕ → ℕ → ℕ
times_in p = gf_mul p.bits p.modulus

abbrev pub values : Parts → ℕ → List ℕ
values p i = functions.values (functions_in p) p.modulus p.points i

abbrev pub value : Parts → ℕ → ℕ → ℕ
value p i q = slice_index (values p i) q

-- `in_span` decides whether a vector is a combination of the first i rows, by trying each factor
unfoldable pub is_new : Parts → ℕ → Bool
is_new p i = not (in_span (2 ^ p.bits) (times_in p) (length p.points) (value p) i (value p i))

unfoldable pub members : Parts → List ℕ
members p = filter (is_new p) (range_with_len 0 (functions_in p).count)

abbrev pub pairs_of : Parts → ℕ → ℕ
pairs_of p i = pair_count (functions_in p) i

abbrev pub is_checked : Parts → ℕ → Bool
is_checked p i = rule_checks p.rule ((functions_in p).label i) (pairs_of p i)

unfoldable pub checked : Parts → List ℕ
checked p = filter (is_checked p) (members p)

unfoldable pub free : Parts → List ℕ
free p = filter (λ i. not (is_checked p i)) (members p)

abbrev pub IsFull : Parts → Type 0
IsFull p = free p ≡ []

abbrev pub checks : Parts → ParityChecks
checks p = record { bits = p.bits; modulus = p.modulus; n = length p.points; vectors = map (values p) (checked p) }

abbrev pub least_of : List ℕ → ℕ
least_of [] = 0
least_of (x ∷ []) = x
least_of (x ∷ (y ∷ ys)) = min x (least_of (y ∷ ys))

unfoldable pub bound : Parts → ℕ
bound p = least_of (map (pairs_of p) (free p))

unfoldable pub radius : Parts → ℕ
radius p = (bound p - 1) / 2

abbrev pub plain_form : Parts → Form
plain_form p = at_layout p.depth p.packed (form_of (checks p) (radius p))

abbrev pub labels : Parts → List ℕ
labels p = map (functions_in p).label (members p)

abbrev pub checked_labels : Parts → List ℕ
checked_labels p = map (functions_in p).label (checked p)

abbrev pub IsRelationOn : (modulus : ℕ) → Space → Option (List NormTerm) → Type 0
IsRelationOn modulus (Cab e) (Some terms) = IsNormalOf e modulus 0 e.a terms
IsRelationOn modulus (Affine bits vars) None = Unit {0}
IsRelationOn modulus (Cab e) None = ⊥
IsRelationOn modulus (Affine bits vars) (Some terms) = ⊥

abbrev pub IsRelation : Parts → Option (List NormTerm) → Type 0
IsRelation p relation = IsRelationOn p.modulus p.space relation
