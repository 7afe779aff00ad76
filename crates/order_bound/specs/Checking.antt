-- IsGrid          a flat list holds rows of n entries, row by row
-- AreFunctions    the labels of the functions of a domain
-- IsIndexOf       the place of a label in a list of labels, or the list's length where it is not there
-- AreIndices      the places of several labels
-- IsLabelBy       the check of the label on line k, by these lists
-- product_of      the product of dual list k with function i, where the values stand position by position
-- VanishesBefore  the products of dual list k with the first functions are 0
-- VanishesLater   and so are those with the functions of the later lines
-- IsDualBy        the check of the dual list on line k, by these lists
-- IsLeastFree     the least pairs of a line with no mark, if there is one
-- IsHeadBy        the check of the second line, by these lists
-- AreBeyond       the sums of a function with those from a place on are after function r, or there are none
-- AreRowsBeyond   so is it for all functions from one on
use Rattle.std.specs.Prelude.{◌≡◌, ◌≢◌, ℕ, suc, ◌+◌, ◌*◌, ◌^◌, ◌<◌, ◌≤◌, Bool, false, List, length, count_by, slice_index}
use Rattle.std.specs.List.{slice_range}
use Rattle.gf_theory.specs.Field.{gf_mul}
use Rattle.linear_theory.specs.Linear.{combine}
use Rattle.gf_linear.specs.Cells.{cell}
use Rattle.counting_theory.specs.Votes.{pairs as pairs_of}
use Rattle.order_theory.specs.Codes.{marked}
use Rattle.order_domain.specs.Domain.{Domain, IsOrderDomain}
use Rattle.order_domain.specs.Values.{sum_or_count}
use Rattle.eval_basis.specs.declared.checked.CheckRule.{CheckRule}
use Rattle.eval_basis.specs.Flat.{IsList}
use Rattle.eval_basis.specs.Rules.{rule_checks}
use Rattle.order_bound.specs.declared.functions.Functions.{Functions}

pub record IsGrid (rows n : ℕ) (f : ℕ → ℕ → ℕ) (xs : List ℕ) : Type 0 where
  pub long : length xs ≡ rows * n
  pub entries : (i p : ℕ) → i < rows → p < n → slice_index xs (i * n + p) ≡ f i p

pub record AreFunctions (d : Domain) (functions : Functions) : Type 0 where
  pub lawful : IsOrderDomain d
  pub few : d.count < 2 ^ 32
  pub labels_fit : (i : ℕ) → i < d.count → d.label i < 2 ^ 32
  pub labels_are : IsList d.count d.label functions.labels.items

pub record IsIndexOf (labels : List ℕ) (label i : ℕ) : Type 0 where
  pub within : i ≤ length labels
  pub found : i < length labels → slice_index labels i ≡ label
  pub missing : i ≡ length labels → (j : ℕ) → j < length labels → slice_index labels j ≢ label

pub record AreIndices (labels said indices : List ℕ) : Type 0 where
  pub long : length indices ≡ length said
  pub each : (k : ℕ) → k < length said → IsIndexOf labels (slice_index said k) (slice_index indices k)

pub record IsLabelBy (d : Domain) (functions : Functions) (rule : CheckRule) (labels pairs : List ℕ) (marks : List Bool) (indices : List ℕ) (k : ℕ) : Type 0 where
  pub found : slice_index indices k < length functions.labels.items
  pub above : (j : ℕ) → k ≡ suc j → slice_index labels j < slice_index labels k
  pub pairs_are : slice_index pairs k ≡ pairs_of d.count (sum_or_count d) (slice_index indices k)
  pub mark_is : marked marks k ≡ rule_checks rule (slice_index functions.labels.items (slice_index indices k)) (pairs_of d.count (sum_or_count d) (slice_index indices k))

abbrev pub product_of : (bits modulus n functions : ℕ) → List ℕ → List ℕ → ℕ → ℕ → ℕ
product_of bits modulus n functions values duals k i = combine (gf_mul bits modulus) n (slice_index (slice_range duals (k * n) (k * n + n))) (cell values functions) i

pub record VanishesBefore (bits modulus n functions : ℕ) (values duals : List ℕ) (k end : ℕ) : Type 0 where
  pub each : (i : ℕ) → i < end → product_of bits modulus n functions values duals k i ≡ 0

pub record VanishesLater (bits modulus n functions : ℕ) (values duals indices : List ℕ) (k : ℕ) : Type 0 where
  pub each : (j : ℕ) → k < j → j < n → product_of bits modulus n functions values duals k (slice_index indices j) ≡ 0

pub record IsDualBy (bits modulus n functions : ℕ) (values duals indices : List ℕ) (k : ℕ) : Type 0 where
  pub before : VanishesBefore bits modulus n functions values duals k (slice_index indices k)
  pub own : product_of bits modulus n functions values duals k (slice_index indices k) ≡ 1
  pub later : VanishesLater bits modulus n functions values duals indices k

pub record IsLeastFree (n : ℕ) (pairs : List ℕ) (marks : List Bool) (least : ℕ) : Type 0 where
  pub reached : (k : ℕ) × (k < n) × (marked marks k ≡ false) × (slice_index pairs k ≡ least)
  pub lower : (k : ℕ) → k < n → marked marks k ≡ false → least ≤ slice_index pairs k

pub record IsHeadBy (checked bound : ℕ) (pairs : List ℕ) (marks : List Bool) : Type 0 where
  pub checked_are : checked ≡ count_by (λ (m : Bool). m) marks
  pub least : IsLeastFree (length marks) pairs marks bound

-- the sums of function i with function `end` and those after it are after function r, or there are none
pub record AreBeyond (d : Domain) (r i end : ℕ) : Type 0 where
  pub each : (v : ℕ) → end ≤ v → v < d.count → r < sum_or_count d i v

pub record AreRowsBeyond (d : Domain) (r i end : ℕ) : Type 0 where
  pub each : (u v : ℕ) → i ≤ u → u < d.count → end ≤ v → v < d.count → r < sum_or_count d u v
