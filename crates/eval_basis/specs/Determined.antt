-- DeterminedLaw   the theorem: sound bases that are built of one domain at one list of points are equal, list by list
use Rattle.std.specs.Prelude.{◌≡◌, ℕ, List}
use Rattle.order_theory.specs.Basis.{Basis, IsSoundBasis}
use Rattle.order_domain.specs.declared.Point.{Point}
use Rattle.order_domain.specs.Domain.{Domain}
use Rattle.eval_basis.specs.Built.{IsBuilt}

abbrev pub DeterminedLaw : Type 0
DeterminedLaw =
    (d : Domain) (modulus : ℕ) (points : List Point) (a b : Basis) → IsBuilt d modulus points a → IsBuilt d modulus points b → IsSoundBasis a → IsSoundBasis b → a ≡ b
