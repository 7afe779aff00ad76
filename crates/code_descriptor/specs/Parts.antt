-- Parts           what a descriptor describes: the bits and the modulus of a field, a space over it, points of the
--                 space, the rule by which functions are checked, the codewords of a group, and whether symbols are stored
--                 packed
-- Space           what the points are points of: a plane curve of the form C_ab, by its equation, or all points of some
--                 number of variables over symbols of some bits
-- coordinates     how many coordinates a point of the space has
-- is_on_space     whether a point is on the space, over the field of these bits and this modulus
-- points_of       all points of the space, by rising x, then y, then z
-- IsSpace         it is a space over symbols of so many bits
-- number_of       the number that a rule compares with: of weights, or of pairs
-- IsDescriptor    the parts belong together: a field, a space over its symbols, distinct points on it, and numbers within
--                 the limits
use Rattle.std.specs.Prelude.{◌≡◌, ℕ, ◌≤◌, Bool, IsTrue, List, All}
use Rattle.gf_theory.specs.Field.{IsModulus}
use Rattle.order_domain.specs.declared.Point.{Point}
use Rattle.order_domain.specs.Points.{IsPointList}
use Rattle.cab_curve.specs.Equation.{Equation, IsCurve}
use Rattle.cab_curve.specs.Points.{is_on_curve, curve_points}
use Rattle.affine_domain.specs.Space as affine
use Rattle.affine_domain.specs.Points as affine_points
use Rattle.eval_basis.specs.declared.checked.CheckRule.{CheckRule}
use Rattle.eval_basis.specs.declared.checked.CheckRule.TheVariants.{AtMost, Small}
use Rattle.ag_frame.specs.declared.frame.TheConstants.{MOST_DEPTH}
use Rattle.code_descriptor.specs.declared.TheConstants.{MOST_NUMBER}

pub data Space : Type 0 where
  Cab : Equation → Space
  -- the bits of a symbol, and the number of variables
  Affine : ℕ → ℕ → Space

pub record Parts : Type 0 where
  pub bits : ℕ
  pub modulus : ℕ
  pub space : Space
  pub points : List Point
  pub rule : CheckRule
  pub depth : ℕ
  pub packed : Bool

abbrev pub coordinates : Space → ℕ
coordinates (Cab e) = 2
coordinates (Affine bits vars) = vars

abbrev pub is_on_space : (bits modulus : ℕ) → Space → Point → Bool
is_on_space bits modulus (Cab e) p = is_on_curve bits modulus e.terms p
is_on_space bits modulus (Affine own vars) p = affine_points.is_on_space own vars p

abbrev pub points_of : (bits modulus : ℕ) → Space → List Point
points_of bits modulus (Cab e) = curve_points bits modulus e.terms
points_of bits modulus (Affine own vars) = affine_points.space_points own vars

abbrev pub IsSpace : ℕ → Space → Type 0
IsSpace bits (Cab e) = IsCurve e × (e.bits ≡ bits)
IsSpace bits (Affine own vars) = affine.IsSpace own vars × (own ≡ bits)

abbrev pub number_of : CheckRule → ℕ
number_of (AtMost weight) = weight
number_of (Small pairs) = pairs

pub record IsDescriptor (p : Parts) : Type 0 where
  pub field : IsModulus p.bits p.modulus
  pub space : IsSpace p.bits p.space
  pub points : IsPointList p.points
  pub points_on : All (λ q. IsTrue (is_on_space p.bits p.modulus p.space q)) p.points
  pub rule_most : number_of p.rule ≤ MOST_NUMBER
  pub depth_least : 1 ≤ p.depth
  pub depth_most : p.depth ≤ MOST_DEPTH
