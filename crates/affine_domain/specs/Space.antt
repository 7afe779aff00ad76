-- IsSpace          the spaces that there are: 1 to 3 variables over symbols of 2 to 8 bits, with three variables of at
--                  most 5 bits
-- exponents        the monomial with three exponents
-- IsIndex          an index of the list is that of a monomial
use Rattle.std.specs.Prelude.{◌≡◌, ℕ, ◌<◌, ◌≤◌, ◌^◌}
use Rattle.theory_affine.specs.Monomials.{Monomial, place, monomial_at, monomial_count}

pub record IsSpace (bits vars : ℕ) : Type 0 where
  pub bits_least : 2 ≤ bits
  pub bits_most : bits ≤ 8
  pub vars_least : 1 ≤ vars
  pub vars_most : vars ≤ 3
  pub three : vars ≡ 3 → bits ≤ 5

abbrev pub exponents : (x y z : ℕ) → Monomial
exponents x y z = record { x = x; y = y; z = z }

pub record IsIndex (bits vars i : ℕ) (m : Monomial) : Type 0 where
  pub below : i < monomial_count (2 ^ bits) vars
  pub is_place : i ≡ place vars m
  pub is_monomial : monomial_at vars i ≡ m
