-- product_at      the product of function i with list q, where the lists stand position by position
-- AreDualTo       the lists are dual to the functions of the lines: product 1 with that of its own line, 0 with the others
-- VanishFrom      the lists from a place on vanish on function i
-- IsLookedAt      function i is marked, or the lists from a place on vanish on it
-- AreNewLines     the functions of the lines are exactly those that are no combination of the functions before them
-- HaveMembers     the functions of the lines are the members, and the lists are dual to their values
-- AreSaidOf       the lines say the pairs of a list of counts, and the marks that the rule gives
-- IsTableBy       what a table says is so, by the tables of the members
use Rattle.std.specs.Prelude.{◌≡◌, ◌≢◌, ◌⊎◌, ℕ, ◌<◌, ◌≤◌, Bool, true, List, length, slice_index}
use Rattle.field_theory.specs.Sums.{unit}
use Rattle.gf_theory.specs.Field.{gf_mul}
use Rattle.linear_theory.specs.Linear.{dot, IsCombination}
use Rattle.gf_linear.specs.Cells.{cell}
use Rattle.order_theory.specs.Codes.{marked}
use Rattle.order_domain.specs.declared.Point.{Point}
use Rattle.order_domain.specs.Domain.{Domain}
use Rattle.order_domain.specs.Values.{value_at}
use Rattle.eval_basis.specs.declared.checked.CheckRule.{CheckRule}
use Rattle.eval_basis.specs.Rules.{rule_checks}
use Rattle.eval_basis.specs.Found.{AreMembers, AreTables}
use Rattle.order_bound.specs.declared.reader.Said.{Said}
use Rattle.order_bound.specs.Checking.{IsHeadBy}

abbrev pub product_at : Domain → (modulus : ℕ) → List Point → List ℕ → ℕ → ℕ → ℕ
product_at d modulus points lists i q = dot (gf_mul d.bits modulus) (length points) (value_at d modulus points i) (λ p. cell lists (length points) p q)

pub record AreDualTo (d : Domain) (modulus : ℕ) (points : List Point) (indices lists : List ℕ) : Type 0 where
  pub each : (k q : ℕ) → k < length points → q < length points → product_at d modulus points lists (slice_index indices k) q ≡ unit k q

pub record VanishFrom (d : Domain) (modulus : ℕ) (points : List Point) (lists : List ℕ) (i from : ℕ) : Type 0 where
  pub each : (q : ℕ) → from ≤ q → q < length points → product_at d modulus points lists i q ≡ 0

abbrev pub IsLookedAt : Domain → (modulus : ℕ) → List Point → List ℕ → List Bool → (i from : ℕ) → Type 0
IsLookedAt d modulus points lists old i from = (marked old i ≡ true) ⊎ VanishFrom d modulus points lists i from

pub record AreNewLines (d : Domain) (modulus : ℕ) (points : List Point) (indices : List ℕ) : Type 0 where
  pub rising : (j k : ℕ) → j < k → k < length points → slice_index indices j < slice_index indices k
  pub fresh : (k : ℕ) → k < length points →
      IsCombination (gf_mul d.bits modulus) (length points) (value_at d modulus points) (slice_index indices k) (value_at d modulus points (slice_index indices k)) → ⊥
  pub others : (i : ℕ) → i < d.count → ((k : ℕ) → k < length points → i ≢ slice_index indices k) →
      IsCombination (gf_mul d.bits modulus) (length points) (value_at d modulus points) i (value_at d modulus points i)

pub record HaveMembers (d : Domain) (modulus : ℕ) (points : List Point) (indices duals : List ℕ) : Type 0 where
  pub vectors : List ℕ
  pub are : AreMembers d modulus points indices vectors duals

pub record AreSaidOf (n : ℕ) (rule : CheckRule) (labels counts pairs : List ℕ) (marks : List Bool) : Type 0 where
  pub pairs_are : (k : ℕ) → k < n → slice_index pairs k ≡ slice_index counts k
  pub marks_are : (k : ℕ) → k < n → marked marks k ≡ rule_checks rule (slice_index labels k) (slice_index counts k)

-- the head is that of the lines, too
pub record IsTableBy (d : Domain) (modulus : ℕ) (points : List Point) (rule : CheckRule) (said : Said) (indices : List ℕ) : Type 0 where
  pub members : HaveMembers d modulus points indices said.entries.duals.items
  pub labels : List ℕ
  pub counts : List ℕ
  pub sums : List ℕ
  pub leads : List ℕ
  pub tables : AreTables d modulus indices labels counts sums leads
  pub are_said : AreSaidOf (length labels) rule labels counts said.entries.pairs.items said.entries.marks.items
  pub head : IsHeadBy said.checked said.bound said.entries.pairs.items said.entries.marks.items
