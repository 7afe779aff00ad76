-- entry_at        what label line k says, counted from 0
-- IsIndex         the index of the function with a label
-- IsGoodLabel     label line k names a function of the domain after the one before it, its pairs, and the mark of the rule
-- dual_product    the product of the list on label line k with the values of function i
-- IsGoodDual      it is 1 with the function of that line, and 0 with the functions of smaller labels and those of the later lines
-- AreGood         each of the first n lines passes a check
-- IsFirstBad      the first line of them that fails it
-- IsGoodHead      the second line counts the checked lines, and names the least pairs of a free one
-- IsSaid          what a text of the form says: its label lines, and how many of them are checked, and the bound
-- IsAccepted      a text that passes all checks, and its bound
-- IsRefused       the line that the checks of a text name first: they are made in the order in which they stand here
-- Says            the verdict on a text is of these two
-- SaysOfTable     a text is accepted exactly where it is the table of a basis, with the order bound
use Rattle.std.specs.Prelude.{◌≡◌, ℕ, suc, ◌+◌, ◌^◌, ◌<◌, ◌≤◌, Bool, false, List, [], length, count_by, slice_index, slice_index_or}
use Rattle.gf_theory.specs.Field.{gf_mul}
use Rattle.linear_theory.specs.Linear.{dot}
use Rattle.counting_theory.specs.Votes.{pairs}
use Rattle.order_theory.specs.Basis.{Basis}
use Rattle.order_theory.specs.Codes.{IsOrderBound}
use Rattle.order_domain.specs.declared.Point.{Point}
use Rattle.order_domain.specs.Domain.{Domain}
use Rattle.order_domain.specs.Values.{value_at, sum_or_count}
use Rattle.eval_basis.specs.declared.checked.CheckRule.{CheckRule}
use Rattle.eval_basis.specs.Rules.{rule_checks}
use Rattle.order_bound.specs.declared.table.TableSays.{TableSays}
use Rattle.order_bound.specs.declared.table.TableSays.TheVariants.{Accepted, Refused}
use Rattle.order_bound.specs.TableText.{Entry, basis_table, IsTableOf}
use Rattle.order_bound.specs.TableForm.{AreLines, IsBadForm}

abbrev pub entry_at : List Entry → ℕ → Entry
entry_at entries k = slice_index_or entries k (record { label = 0; pairs = 0; mark = false; dual = [] })

pub record IsIndex (d : Domain) (label i : ℕ) : Type 0 where
  pub below : i < d.count
  pub is : d.label i ≡ label

pub record IsGoodLabel (d : Domain) (rule : CheckRule) (entries : List Entry) (k : ℕ) : Type 0 where
  pub index : ℕ
  pub is_index : IsIndex d (entry_at entries k).label index
  pub above : (j : ℕ) → k ≡ suc j → (entry_at entries j).label < (entry_at entries k).label
  pub pairs_are : (entry_at entries k).pairs ≡ pairs d.count (sum_or_count d) index
  pub mark_is : (entry_at entries k).mark ≡ rule_checks rule (entry_at entries k).label (entry_at entries k).pairs

abbrev pub dual_product : Domain → (modulus : ℕ) → List Point → List Entry → ℕ → ℕ → ℕ
dual_product d modulus points entries k i = dot (gf_mul d.bits modulus) (length points) (slice_index (entry_at entries k).dual) (value_at d modulus points i)

pub record IsGoodDual (d : Domain) (modulus : ℕ) (points : List Point) (entries : List Entry) (k : ℕ) : Type 0 where
  pub before : (i : ℕ) → i < d.count → d.label i < (entry_at entries k).label → dual_product d modulus points entries k i ≡ 0
  pub own : (i : ℕ) → IsIndex d (entry_at entries k).label i → dual_product d modulus points entries k i ≡ 1
  pub later : (j i : ℕ) → k < j → j < length entries → IsIndex d (entry_at entries j).label i → dual_product d modulus points entries k i ≡ 0

pub record AreGood (n : ℕ) (P : ℕ → Type 0) : Type 0 where
  pub each : (k : ℕ) → k < n → P k

pub record IsFirstBad (n : ℕ) (P : ℕ → Type 0) (k : ℕ) : Type 0 where
  pub within : k < n
  pub before : (j : ℕ) → j < k → P j
  pub bad : P k → ⊥

-- there is a free line
pub record IsGoodHead (checked bound : ℕ) (entries : List Entry) : Type 0 where
  pub checked_are : checked ≡ count_by (λ (e : Entry). e.mark) entries
  pub reached : (k : ℕ) × (k < length entries) × ((entry_at entries k).mark ≡ false) × ((entry_at entries k).pairs ≡ bound)
  pub least : (k : ℕ) → k < length entries → (entry_at entries k).mark ≡ false → bound ≤ (entry_at entries k).pairs

pub record IsSaid (size n : ℕ) (text : List ℕ) (checked bound : ℕ) (entries : List Entry) : Type 0 where
  pub lines : AreLines size n text checked bound entries []
  pub n_entries : length entries ≡ n

module _ (d : Domain) (modulus : ℕ) (points : List Point) (rule : CheckRule) (text : List ℕ) where
  pub record IsAccepted (bound : ℕ) : Type 0 where
    pub checked : ℕ
    pub entries : List Entry
    pub is_said : IsSaid (2 ^ d.bits) (length points) text checked bound entries
    pub labels : AreGood (length points) (IsGoodLabel d rule entries)
    pub duals : AreGood (length points) (IsGoodDual d modulus points entries)
    pub head : IsGoodHead checked bound entries

  pub data IsRefused : ℕ → Type 0 where
    bad_form : (line : ℕ) → IsBadForm (2 ^ d.bits) (length points) text line → IsRefused line
    bad_label : (checked bound : ℕ) (entries : List Entry) (k : ℕ) → IsSaid (2 ^ d.bits) (length points) text checked bound entries → IsFirstBad (length points) (IsGoodLabel d rule entries) k → IsRefused (k + 3)
    bad_dual : (checked bound : ℕ) (entries : List Entry) (k : ℕ) → IsSaid (2 ^ d.bits) (length points) text checked bound entries → AreGood (length points) (IsGoodLabel d rule entries) →
        IsFirstBad (length points) (IsGoodDual d modulus points entries) k → IsRefused (k + 3)
    bad_head : (checked bound : ℕ) (entries : List Entry) → IsSaid (2 ^ d.bits) (length points) text checked bound entries → AreGood (length points) (IsGoodLabel d rule entries) →
        AreGood (length points) (IsGoodDual d modulus points entries) → (IsGoodHead checked bound entries → ⊥) → IsRefused 2

abbrev pub Says : (d : Domain) (modulus : ℕ) (points : List Point) (rule : CheckRule) (text : List ℕ) → TableSays → Type 0
Says d modulus points rule text (Accepted bound) = IsAccepted d modulus points rule text bound
Says d modulus points rule text (Refused line) = IsRefused d modulus points rule text line

abbrev pub SaysOfTable : Basis → List Bool → List ℕ → TableSays → Type 0
SaysOfTable b marks text (Accepted bound) = IsOrderBound b marks bound × (text ≡ basis_table b marks bound)
SaysOfTable b marks text (Refused line) = IsTableOf b marks text → ⊥
