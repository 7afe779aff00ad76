-- PairsOfMonomials    a function of a space with the exponents x, y and z is the sum of (x + 1)·(y + 1)·(z + 1) ordered
--                     pairs of functions
use Rattle.std.specs.Prelude.{ℕ, ◌≡◌, ◌+◌, ◌*◌, ◌<◌, ◌^◌}
use Rattle.theory_affine.specs.Monomials.{monomial_at, monomial_count}
use Rattle.order_domain.specs.Functions.{pair_count}
use Rattle.affine_domain.specs.Space.{IsSpace}
use Rattle.affine_domain.specs.Domain.{affine_functions}

abbrev pub PairsOfMonomials : Type 0
PairsOfMonomials =
    (bits vars s : ℕ) → IsSpace bits vars → s < monomial_count (2 ^ bits) vars →
    pair_count (affine_functions bits vars) s
    ≡ ((monomial_at vars s).x + 1) * ((monomial_at vars s).y + 1) * ((monomial_at vars s).z + 1)
