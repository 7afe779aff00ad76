-- HasDistance    a number d for a code: each codeword other than zero has at least d symbols that are not 0, and within t
--                of a list of bytes there is one codeword at most, where 2t is below d
use Rattle.std.specs.Prelude.{◌≡◌, ◌≢◌, ℕ, ◌*◌, ◌<◌, ◌≤◌, Bool, List, length}
use Rattle.order_theory.specs.Basis.{Basis, times}
use Rattle.order_theory.specs.Errors.{weight}
use Rattle.order_theory.specs.Codes.{IsCodeword, IsNear}

pub record HasDistance (b : Basis) (marks : List Bool) (d : ℕ) : Type 0 where
  pub weights : (x : List ℕ) → IsCodeword (times b) b marks x → weight x ≢ 0 → d ≤ weight x
  pub near_once : (t : ℕ) (y x x' : List ℕ) → 2 * t < d → length y ≡ b.n → IsNear (times b) b marks t y x → IsNear (times b) b marks t y x' → x ≡ x'
