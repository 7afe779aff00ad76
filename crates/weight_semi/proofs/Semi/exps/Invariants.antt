use Rattle.std.proofs.Common.{ℕ, ◌<◌}
use Rattle.curve_theory.proofs.Semigroup.{IsNoExponent}
use Rattle.weight_semi.proofs.Semi.exps.Given as goal

abbrev pub invariant-loop-j : goal.invariant-loop-j
invariant-loop-j l = (k : ℕ) → k < l.j → IsNoExponent l.self.a l.self.b l.w k
