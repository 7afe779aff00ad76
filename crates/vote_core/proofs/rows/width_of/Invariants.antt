use Rattle.std.proofs.Common.{ℕ, ◌<◌}
use Rattle.order_theory.specs.Basis.{sum_at}
use Rattle.vote_core.proofs.rows.width_of.Given as goal

abbrev pub invariant-loop-j : goal.invariant-loop-j
invariant-loop-j g l = (q : ℕ) → q < l.j → sum_at l.basis l.i q < l.limit
