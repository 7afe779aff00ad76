-- IsOneLine     a text that is refused at a line is refused at no other, and is not accepted
-- OneLineLaw    each text that is refused is so, where there are at most 256 symbols and 1,024 points
use Rattle.std.specs.Prelude.{◌≡◌, ℕ, ◌^◌, ◌≤◌, List, length}
use Rattle.order_domain.specs.declared.Point.{Point}
use Rattle.order_domain.specs.Domain.{Domain}
use Rattle.eval_basis.specs.declared.checked.CheckRule.{CheckRule}
use Rattle.order_bound.specs.TableChecks.{IsAccepted, IsRefused}

pub record IsOneLine (d : Domain) (modulus : ℕ) (points : List Point) (rule : CheckRule) (text : List ℕ) (line : ℕ)
    : Type 0 where
  pub once : (other : ℕ) → IsRefused d modulus points rule text other → line ≡ other
  pub not_accepted : (bound : ℕ) → IsAccepted d modulus points rule text bound → ⊥

abbrev pub OneLineLaw : Type 0
OneLineLaw =
    (d : Domain) (modulus : ℕ) (points : List Point) (rule : CheckRule) (text : List ℕ) (line : ℕ) →
    2 ^ d.bits ≤ 256 → length points ≤ 1024 → IsRefused d modulus points rule text line →
    IsOneLine d modulus points rule text line
