use Rattle.std.proofs.Common.{ℕ, ◌<◌, length}
use Rattle.order_bound.specs.Checking.{IsDualBy}
use Rattle.order_bound.proofs.checks.first_bad_dual.Given as goal

abbrev pub invariant-loop-k : goal.invariant-loop-k
invariant-loop-k g l = (j : ℕ) → j < l.k → IsDualBy (g.F.Field.bits_of l.f) (g.F.Field.modulus_of l.f) (length l.indices) (length l.initial.products) l.values l.duals l.indices j
