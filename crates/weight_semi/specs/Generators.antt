-- AreGenerators      a and b are 2 to 32 and coprime
-- are_generators     whether they are, by a test: no number above 1 divides both
use Rattle.std.specs.Prelude.{ℕ, ◌%◌, ◌≤◌, ◌==◌, nat_le, Bool, not, ◌&&◌}
use Rattle.std.specs.Int.{IsGcd}
use Rattle.field_theory.specs.Sums.{any_below}

pub record AreGenerators (a b : ℕ) : Type 0 where
  pub a_least : 2 ≤ a
  pub a_most : a ≤ 32
  pub b_least : 2 ≤ b
  pub b_most : b ≤ 32
  pub coprime : IsGcd a b 1

unfoldable pub are_generators : ℕ → ℕ → Bool
are_generators a b =
    ((nat_le 2 a && nat_le a 32) && (nat_le 2 b && nat_le b 32))
    && not (any_below 33 (λ d. nat_le 2 d && (a % d == 0 && b % d == 0)))
