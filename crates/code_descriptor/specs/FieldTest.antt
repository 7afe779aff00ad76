-- has_factor      whether a polynomial of degree i divides p
-- is_modulus      whether m is 2 to 8 and p is irreducible of degree m: no polynomial of degree 1 to m - 1 divides it
use Rattle.std.specs.Prelude.{ℕ, ◌+◌, ◌/◌, ◌^◌, ◌==◌, nat_le, Bool, not, ◌&&◌}
use Rattle.field_theory.specs.Sums.{any_below}
use Rattle.gf_theory.specs.Field.{gf_rem}

abbrev pub has_factor : (i p : ℕ) → Bool
has_factor i p = any_below (2 ^ i) (λ k. gf_rem i (2 ^ i + k) p == 0)

unfoldable pub is_modulus : (m p : ℕ) → Bool
is_modulus m p = ((nat_le 2 m && nat_le m 8) && p / 2 ^ m == 1) && not (any_below m (λ i. nat_le 1 i && has_factor i p))
