-- slots     the numbers of a list of options, n where there is none
-- IsSlot    what an option says of such a number
use Rattle.std.specs.Prelude.{◌≡◌, ℕ, ◌<◌, List, map, Option, Some, None, unwrap_or}

unfoldable pub slots : ℕ → List (Option ℕ) → List ℕ
slots n xs = map (λ o. unwrap_or o n) xs

pub record IsOther (n x y : ℕ) : Type 0 where
  pub same : x ≡ y
  pub low : y < n

abbrev pub IsSlot : ℕ → ℕ → Option ℕ → Type 0
IsSlot n x None = x ≡ n
IsSlot n x (Some y) = IsOther n x y
