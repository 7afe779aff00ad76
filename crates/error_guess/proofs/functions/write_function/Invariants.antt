use Rattle.order_theory.specs.Basis.{IsWord}
use Rattle.error_guess.proofs.functions.write_function.Given as goal

abbrev pub invariant-loop-t : goal.invariant-loop-t
invariant-loop-t g l = IsWord l.basis.bits l.basis.n l.line
