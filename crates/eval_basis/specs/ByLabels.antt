-- IsOrthogonalToSmall   a list is orthogonal to the values of each function of a domain whose label is at most a number
-- AtMostLaw             the theorem: the code of the rule `AtMost` on a built basis is the lists that are orthogonal so
use Rattle.std.specs.Prelude.{◌≡◌, ℕ, ◌<◌, ◌≤◌, ◌↔◌, List, length, slice_index}
use Rattle.gf_theory.specs.Field.{gf_mul}
use Rattle.linear_theory.specs.Linear.{dot}
use Rattle.order_theory.specs.Basis.{Basis, IsWord, IsSoundBasis, times}
use Rattle.order_theory.specs.Codes.{IsCodeword}
use Rattle.order_domain.specs.declared.Point.{Point}
use Rattle.order_domain.specs.Domain.{Domain, ArePoints, IsOrderDomain}
use Rattle.order_domain.specs.Values.{value_at}
use Rattle.eval_basis.specs.declared.checked.CheckRule.TheVariants.{AtMost}
use Rattle.eval_basis.specs.Rules.{checked_by}
use Rattle.eval_basis.specs.Built.{IsBuilt}

pub record IsOrthogonalToSmall (d : Domain) (modulus : ℕ) (points : List Point) (weight : ℕ) (x : List ℕ) : Type 0 where
  pub products : (i : ℕ) → i < d.count → d.label i ≤ weight → dot (gf_mul d.bits modulus) (length points) (slice_index x) (value_at d modulus points i) ≡ 0

abbrev pub AtMostLaw : Type 0
AtMostLaw =
    (d : Domain) (modulus : ℕ) (points : List Point) (b : Basis) (weight : ℕ) (x : List ℕ) → IsOrderDomain d → ArePoints d modulus points →
    IsBuilt d modulus points b → IsSoundBasis b → IsWord b.bits b.n x →
    IsCodeword (times b) b (checked_by b (AtMost weight)) x ↔ IsOrthogonalToSmall d modulus points weight x
