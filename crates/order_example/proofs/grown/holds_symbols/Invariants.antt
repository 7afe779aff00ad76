use Rattle.std.proofs.Common.{ℕ, ◌<◌}
use Rattle.gf_linear.specs.Matrix.{entry}
use Rattle.order_example.proofs.grown.holds_symbols.Given as goal

abbrev pub invariant-loop-i : goal.invariant-loop-i
invariant-loop-i l = (q j : ℕ) → q < l.i → entry l.m q j < 4
