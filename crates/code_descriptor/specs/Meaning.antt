-- What a text means: it is refused for one cause, or it describes one code.
--
-- IsTable         the text is not too large, it is UTF-8, and as a document of TOML it is this table
-- Names           a text has no bad key, and these integers, arrays and words stand at its keys
-- Lacks           there are no parts of which this holds
--
-- A curve that is named has this equation over symbols of so many bits, as far as it was looked at; each of these stands on
-- the one before it:
-- HasDegrees      a and b are the weights of x and y
-- HasTerms        the terms are those of the equation, and none of them is bad; bad_term: the first that is
-- HasCurve        no lead is missing; lacks_lead: whether one is
--
-- HasVariables    an integer is the number of variables of an affine space over symbols of so many bits
-- IsSpaceOf       what is named is this space
-- IsRefusedSpace  why it is none: of a curve all that comes before the cause is there, and what it asks for is not
--
-- What is named has these parts, as far as it was looked at; each of these stands on the one before it, and the parts
-- that come later are then free:
-- HasField        bits and modulus are those of a field
-- HasSpace        the space is the one named
-- HasPoints       the points are points of the space, and none of them is bad; bad_point: the first that is
-- HasRule         the rule is the one named, and its number is 0 to MOST_NUMBER
-- HasLayout       the layout is `bytes` or `packed`, or missing
-- AreParts        depth is 1 to MOST_DEPTH, so that all parts are there
--
-- IsRefusedPart   why what is named is refused: all that comes before a cause is there, and what it asks for is not
-- IsRefusedFor    a text is refused for this cause
-- Describes       a text describes these parts
-- HasOneMeaning   a text is refused for one cause or describes one code, and never both
-- OneMeaningLaw   the theorem: every text has one meaning
-- MeansTheSame    two texts have the same meaning
use Rattle.std.specs.Prelude.{◌≡◌, ◌⊎◌, ℕ, ◌^◌, ◌<◌, ◌≤◌, ℤ, pos, List, map, length, Bool, true, false, Option, Some, None}
use Rattle.std.specs.Str.{IsUtf8}
use Rattle.toml.specs.Data.{Members}
use Rattle.toml.specs.Parse.{parse_document}
use Rattle.gf_theory.specs.Field.{IsModulus}
use Rattle.weight_semi.specs.Generators.{AreGenerators}
use Rattle.cab_curve.specs.Equation.{Equation, misses_lead}
use Rattle.affine_domain.specs.Space as affine
use Rattle.eval_basis.specs.declared.checked.CheckRule.{CheckRule}
use Rattle.eval_basis.specs.declared.checked.CheckRule.TheVariants.{AtMost, Small}
use Rattle.code_descriptor.specs.declared.keys.NamedRule.TheVariants.{Weight, Improved}
use Rattle.code_descriptor.specs.declared.DescCause.{DescCause}
use Rattle.code_descriptor.specs.declared.DescCause.TheVariants.{TooLarge, NotToml, BadKey, BadField, BadSpace, BadDegrees, BadTerm, MissingLead, BadPoint, BadWeight, BadImproved, BadLayout, BadDepth, NoPoints, NothingFree}
use Rattle.ag_frame.specs.declared.frame.TheConstants.{MOST_DEPTH}
use Rattle.code_descriptor.specs.declared.TheConstants.{MOST_TEXT, MOST_NUMBER}
use Rattle.code_descriptor.specs.Tree.{Named, NamedCurve, NamedSpace, OfCurve, OfVariables, NamedRule, IsNamed, bad_key}
pub use Rattle.code_descriptor.specs.Parts.{Parts, Space, Cab, Affine}
use Rattle.code_descriptor.specs.Tests.{plain_term, plain_point, first_bad_term, first_bad_point}

pub record IsTable (text : List ℕ) (table : Members) : Type 0 where
  pub small : length text ≤ MOST_TEXT
  pub utf8 : IsUtf8 text
  pub document : parse_document text ≡ Some table

pub record Names (text : List ℕ) (n : Named) : Type 0 where
  pub table : Members
  pub is_table : IsTable text table
  pub no_bad_key : bad_key table ≡ None
  pub named : IsNamed table n

abbrev pub Lacks : (Parts → Type 0) → Type 0
Lacks Holds = (p : Parts) → Holds p → ⊥

pub record HasDegrees (bits : ℕ) (c : NamedCurve) (e : Equation) : Type 0 where
  pub bits_are : e.bits ≡ bits
  pub a : c.a ≡ pos e.a
  pub b : c.b ≡ pos e.b
  pub generators : AreGenerators e.a e.b

abbrev pub bad_term : ℕ → NamedCurve → Equation → Option ℕ
bad_term bits c e = first_bad_term (2 ^ bits) e.a e.b c.terms

pub record HasTerms (bits : ℕ) (c : NamedCurve) (e : Equation) : Type 0 where
  pub before : HasDegrees bits c e
  pub terms : e.terms ≡ map plain_term c.terms
  pub none_bad : bad_term bits c e ≡ None

abbrev pub lacks_lead : Equation → Bool
lacks_lead e = misses_lead e.a e.b e.terms

pub record HasCurve (bits : ℕ) (c : NamedCurve) (e : Equation) : Type 0 where
  pub before : HasTerms bits c e
  pub leads : lacks_lead e ≡ false

pub record HasVariables (bits : ℕ) (z : ℤ) (own vars : ℕ) : Type 0 where
  pub bits_are : own ≡ bits
  pub vars_are : z ≡ pos vars
  pub space : affine.IsSpace bits vars

abbrev pub IsSpaceOf : (bits : ℕ) → NamedSpace → Space → Type 0
IsSpaceOf bits (OfCurve c) (Cab e) = HasCurve bits c e
IsSpaceOf bits (OfVariables z) (Affine own vars) = HasVariables bits z own vars
IsSpaceOf bits (OfCurve c) (Affine own vars) = ⊥
IsSpaceOf bits (OfVariables z) (Cab e) = ⊥

abbrev pub IsRefusedSpace : (bits : ℕ) → NamedSpace → DescCause → Type 0
IsRefusedSpace bits (OfCurve c) BadDegrees = (e : Equation) → HasDegrees bits c e → ⊥
IsRefusedSpace bits (OfCurve c) (BadTerm index) =
    (e : Equation) × HasDegrees bits c e × (bad_term bits c e ≡ Some index)
IsRefusedSpace bits (OfCurve c) MissingLead = (e : Equation) × HasTerms bits c e × (lacks_lead e ≡ true)
IsRefusedSpace bits (OfVariables z) BadSpace = (own vars : ℕ) → HasVariables bits z own vars → ⊥
IsRefusedSpace bits _ _ = ⊥

pub record HasField (n : Named) (p : Parts) : Type 0 where
  pub bits : n.bits ≡ pos p.bits
  pub modulus : n.modulus ≡ pos p.modulus
  pub field : IsModulus p.bits p.modulus

pub record HasSpace (n : Named) (p : Parts) : Type 0 where
  pub before : HasField n p
  pub space : IsSpaceOf p.bits n.space p.space

abbrev pub bad_point : Named → Parts → Option ℕ
bad_point n p = first_bad_point p.bits p.modulus p.space n.points

pub record HasPoints (n : Named) (p : Parts) : Type 0 where
  pub before : HasSpace n p
  pub points : p.points ≡ map plain_point n.points
  pub none_bad : bad_point n p ≡ None

abbrev pub IsRule : NamedRule → CheckRule → Type 0
IsRule (Weight z) (AtMost weight) = (z ≡ pos weight) × (weight ≤ MOST_NUMBER)
IsRule (Improved z) (Small pairs) = (z ≡ pos pairs) × (pairs ≤ MOST_NUMBER)
IsRule (Weight z) (Small pairs) = ⊥
IsRule (Improved z) (AtMost weight) = ⊥

pub record HasRule (n : Named) (p : Parts) : Type 0 where
  pub before : HasPoints n p
  pub rule : IsRule n.rule p.rule

pub record HasLayout (n : Named) (p : Parts) : Type 0 where
  pub before : HasRule n p
  pub layout : n.packed ≡ Some p.packed

pub record AreParts (n : Named) (p : Parts) : Type 0 where
  pub before : HasLayout n p
  pub depth : n.depth ≡ pos p.depth
  pub depth_least : 1 ≤ p.depth
  pub depth_most : p.depth ≤ MOST_DEPTH

abbrev pub IsRefusedPart : Named → DescCause → Type 0
IsRefusedPart n BadField = Lacks (HasField n)
IsRefusedPart n BadSpace = (p : Parts) × HasField n p × IsRefusedSpace p.bits n.space BadSpace
IsRefusedPart n BadDegrees = (p : Parts) × HasField n p × IsRefusedSpace p.bits n.space BadDegrees
IsRefusedPart n (BadTerm index) = (p : Parts) × HasField n p × IsRefusedSpace p.bits n.space (BadTerm index)
IsRefusedPart n MissingLead = (p : Parts) × HasField n p × IsRefusedSpace p.bits n.space MissingLead
IsRefusedPart n (BadPoint index) = (p : Parts) × HasSpace n p × (bad_point n p ≡ Some index)
IsRefusedPart n BadWeight = (p : Parts) × HasPoints n p × ((z : ℤ) × (n.rule ≡ Weight z)) × Lacks (HasRule n)
IsRefusedPart n BadImproved = (p : Parts) × HasPoints n p × ((z : ℤ) × (n.rule ≡ Improved z)) × Lacks (HasRule n)
IsRefusedPart n BadLayout = (p : Parts) × HasRule n p × Lacks (HasLayout n)
IsRefusedPart n BadDepth = (p : Parts) × HasLayout n p × Lacks (AreParts n)
IsRefusedPart n TooLarge = ⊥
IsRefusedPart n NotToml = ⊥
IsRefusedPart n (BadKey key) = ⊥
IsRefusedPart n NoPoints = ⊥
IsRefusedPart n NothingFree = ⊥

abbrev pub IsRefusedFor : List ℕ → DescCause → Type 0
IsRefusedFor text TooLarge = MOST_TEXT < length text
IsRefusedFor text NotToml = (length text ≤ MOST_TEXT) × ((table : Members) → IsTable text table → ⊥)
IsRefusedFor text (BadKey key) = (table : Members) × IsTable text table × (bad_key table ≡ Some key)
IsRefusedFor text cause = (n : Named) × Names text n × IsRefusedPart n cause

pub record Describes (text : List ℕ) (p : Parts) : Type 0 where
  pub named : Named
  pub names : Names text named
  pub parts : AreParts named p

pub record HasOneMeaning (text : List ℕ) : Type 0 where
  pub some : ((cause : DescCause) × IsRefusedFor text cause) ⊎ ((p : Parts) × Describes text p)
  pub one_cause : (c d : DescCause) → IsRefusedFor text c → IsRefusedFor text d → c ≡ d
  pub one_code : (p q : Parts) → Describes text p → Describes text q → p ≡ q
  pub not_both : (cause : DescCause) (p : Parts) → IsRefusedFor text cause → Describes text p → ⊥

abbrev pub OneMeaningLaw : Type 0
OneMeaningLaw = (text : List ℕ) → HasOneMeaning text

pub record MeansTheSame (text other : List ℕ) : Type 0 where
  pub refused : (cause : DescCause) → IsRefusedFor text cause → IsRefusedFor other cause
  pub described : (p : Parts) → Describes text p → Describes other p
