-- What the values of the code stand for.
--
-- space_named      a space, as it is written
-- named_of         what stands at the keys
-- IsNamedCode      these points, this rule, this layout and this depth stand at the keys of a table
-- IsRefusal        the error is want of memory, or this refusal
-- IsKeyRefusal     the error is want of memory, or that a key is bad, which it is
-- IsAccepted       what is named by a table describes these parts
-- IsRefusedTable   what is named by a table is refused for this cause
-- IsTableRefusal   the error is want of memory, or refuses a table
-- fits_term        whether the three numbers of a term fit those of code
-- IsFittingPart    the plain terms are those of all terms before the first that does not fit
-- error_of         what a fault of the curve says, where the terms from a place on may be cut off
use Rattle.std.specs.Prelude.{◌≡◌, ◌⊎◌, ℕ, ◌<◌, ◌≤◌, Bool, true, false, ◌&&◌, List, length, take, map, codes, ⊤, Option, None, Some}
use Rattle.toml.specs.Data.{Members}
use Rattle.curve_theory.specs.declared.Term.{Term}
use Rattle.cab_curve.specs.First.{first_of}
use Rattle.cab_curve.specs.declared.equation.CurveFault.{CurveFault}
use Rattle.cab_curve.specs.declared.equation.CurveFault.TheVariants as fault
use Rattle.code_descriptor.specs.declared.DescError.{DescError}
use Rattle.code_descriptor.specs.declared.DescError.TheVariants.{NoMemory, Refused}
use Rattle.code_descriptor.specs.declared.DescCause.{DescCause}
use Rattle.code_descriptor.specs.declared.DescCause.TheVariants as cause
use Rattle.code_descriptor.specs.declared.KeyName.{KeyName}
use Rattle.code_descriptor.specs.declared.keys.NamedParts.{NamedParts}
use Rattle.code_descriptor.specs.declared.keys.NamedCode.{NamedCode}
use Rattle.code_descriptor.specs.declared.keys.NamedSpace as named
use Rattle.code_descriptor.specs.declared.keys.NamedSpace.TheVariants as kind
use Rattle.code_descriptor.specs.Tree.{Named, NamedSpace, OfCurve, OfVariables, NamedTerm, IsNamed, IsNamedRule, bad_key, has_space, points_at, packed_at, integer_at}
use Rattle.code_descriptor.specs.Parts.{Parts}
use Rattle.code_descriptor.specs.Tests.{fits_u32, is_from_to, plain_term, named_term_at, parts, refusals}

abbrev pub space_named : named.NamedSpace → NamedSpace
space_named (kind.Curve a b terms) = OfCurve (record { a = a; b = b; terms = terms.items })
space_named (kind.Affine vars) = OfVariables vars

abbrev pub named_of : NamedParts → Named
named_of n = record {
  bits = n.bits;
  modulus = n.modulus;
  space = space_named n.space;
  points = n.code.points.items;
  rule = n.code.rule;
  packed = n.code.packed;
  depth = n.code.depth;
}

pub record IsNamedCode (table : Members) (c : NamedCode) : Type 0 where
  pub points : points_at (has_space table) (codes "points") table ≡ Some c.points.items
  pub rule : IsNamedRule table c.rule
  pub packed : packed_at table ≡ c.packed
  pub depth : integer_at (codes "depth") table ≡ Some c.depth

abbrev pub IsRefusal : DescError → Option DescCause → Type 0
IsRefusal NoMemory refusal = ⊤
IsRefusal (Refused c) refusal = refusal ≡ Some c

abbrev pub IsKeyRefusal : {A : Type 0} → DescError → KeyName → Option A → Type 0
IsKeyRefusal NoMemory key found = ⊤
IsKeyRefusal (Refused c) key found = (c ≡ cause.BadKey key) × (found ≡ None)

pub record IsAccepted (table : Members) (p : Parts) : Type 0 where
  pub named : Named
  pub no_bad_key : bad_key table ≡ None
  pub is_named : IsNamed table named
  pub refusal : first_of (refusals named) ≡ None
  pub parts : p ≡ parts named

pub record IsRefusedTable (table : Members) (c : DescCause) : Type 0 where
  pub named : Named
  pub no_bad_key : bad_key table ≡ None
  pub is_named : IsNamed table named
  pub refusal : first_of (refusals named) ≡ Some c

abbrev pub IsTableRefusal : Members → DescError → Type 0
IsTableRefusal table NoMemory = ⊤
IsTableRefusal table (Refused c) =
    ((key : KeyName) × (c ≡ cause.BadKey key) × (bad_key table ≡ Some key)) ⊎ IsRefusedTable table c

unfoldable pub fits_term : NamedTerm → Bool
fits_term t = (fits_u32 t.i && fits_u32 t.j) && is_from_to 0 255 t.c

pub record IsFittingPart (ts : List NamedTerm) (plain : List Term) : Type 0 where
  pub at_most : length plain ≤ length ts
  pub items : plain ≡ map plain_term (take (length plain) ts)
  pub fit : (k : ℕ) → k < length plain → fits_term (named_term_at ts k) ≡ true
  pub cut : length plain < length ts → fits_term (named_term_at ts (length plain)) ≡ false

abbrev pub error_of : CurveFault → ℕ → Bool → DescError
error_of fault.NoMemory fitting is_cut = NoMemory
error_of fault.BadDegrees fitting is_cut = Refused cause.BadDegrees
error_of (fault.BadTerm index) fitting is_cut = Refused (cause.BadTerm index)
error_of fault.MissingLead fitting true = Refused (cause.BadTerm fitting)
error_of fault.MissingLead fitting false = Refused cause.MissingLead
