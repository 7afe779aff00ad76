-- chosen       the items of a list whose marks are set, in their order
-- checks_of    the checks of a basis: the vectors of its marked members
use Rattle.std.specs.Prelude.{Bool, cond, List, [], ◌∷◌}
use Rattle.order_theory.specs.Basis.{Basis}
use Rattle.block_theory.specs.Checks.{ParityChecks}

abbrev pub chosen : {X : Type 0} → List Bool → List X → List X
chosen [] xs = []
chosen (m ∷ ms) [] = []
chosen (m ∷ ms) (x ∷ xs) = cond m (x ∷ chosen ms xs) (chosen ms xs)

abbrev pub checks_of : Basis → List Bool → ParityChecks
checks_of b marks = record { bits = b.bits; modulus = b.modulus; n = b.n; vectors = chosen marks b.vectors }
