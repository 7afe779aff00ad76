-- IsMember                function i of a domain is a member: its values at the points are no combination of those of
--                         the functions before it
-- is_checked              whether a rule checks function i, by its label and by how many pairs of functions have it
--                         as their sum
-- AreAllChecked           a rule checks every member
-- IsOrthogonalToChecked   a list is orthogonal to the values of each member that a rule checks
-- RuleLaw                 the theorem: for any rule, the code of a built basis is the lists that are orthogonal so
use Rattle.std.specs.Prelude.{◌≡◌, ℕ, ◌<◌, ◌↔◌, Bool, true, List, length, slice_index}
use Rattle.gf_theory.specs.Field.{gf_mul}
use Rattle.linear_theory.specs.Linear.{dot, IsCombination}
use Rattle.counting_theory.specs.Votes.{pairs}
use Rattle.order_theory.specs.Basis.{Basis, IsWord, times}
use Rattle.order_theory.specs.Codes.{IsCodeword}
use Rattle.order_domain.specs.declared.Point.{Point}
use Rattle.order_domain.specs.Domain.{Domain}
use Rattle.order_domain.specs.Values.{value_at, sum_or_count}
use Rattle.eval_basis.specs.declared.checked.CheckRule.{CheckRule}
use Rattle.eval_basis.specs.Rules.{rule_checks, checked_by}
use Rattle.eval_basis.specs.Built.{IsBuilt}

pub record IsMember (d : Domain) (modulus : ℕ) (points : List Point) (i : ℕ) : Type 0 where
  pub below : i < d.count
  pub new :
      IsCombination (gf_mul d.bits modulus) (length points) (value_at d modulus points) i (value_at d modulus points i) →
      ⊥

abbrev pub is_checked : Domain → CheckRule → ℕ → Bool
is_checked d rule i = rule_checks rule (d.label i) (pairs d.count (sum_or_count d) i)

pub record AreAllChecked (d : Domain) (modulus : ℕ) (points : List Point) (rule : CheckRule) : Type 0 where
  pub each : (i : ℕ) → IsMember d modulus points i → is_checked d rule i ≡ true

pub record IsOrthogonalToChecked (d : Domain) (modulus : ℕ) (points : List Point) (rule : CheckRule) (x : List ℕ)
    : Type 0 where
  pub products : (i : ℕ) → IsMember d modulus points i → is_checked d rule i ≡ true →
      dot (gf_mul d.bits modulus) (length points) (slice_index x) (value_at d modulus points i) ≡ 0

abbrev pub RuleLaw : Type 0
RuleLaw =
    (d : Domain) (modulus : ℕ) (points : List Point) (b : Basis) (rule : CheckRule) (x : List ℕ) →
    IsBuilt d modulus points b → IsWord b.bits b.n x →
    IsCodeword (times b) b (checked_by b rule) x ↔ IsOrthogonalToChecked d modulus points rule x
