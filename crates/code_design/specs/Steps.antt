-- IsOrderAt    what checking the labels up to a weight comes to: no weight where all members are then checked; else the
--              weight, how many are, and the bound
use Rattle.std.specs.Prelude.{◌≡◌, ℕ, Option, Some, None}
use Rattle.order_theory.specs.Basis.{Basis}
use Rattle.order_theory.specs.Codes.{AreAllMarked, IsOrderBound}
use Rattle.code_design.specs.Serving.{size_of, up_to}

abbrev pub IsOrderAt : Basis → ℕ → Option ℕ → ℕ → ℕ → Type 0
IsOrderAt b weight None checks bound = AreAllMarked b (up_to b weight) × (checks ≡ 0) × (bound ≡ 0)
IsOrderAt b weight (Some order) checks bound =
    (order ≡ weight) × (checks ≡ size_of (up_to b weight)) × IsOrderBound b (up_to b weight) bound
