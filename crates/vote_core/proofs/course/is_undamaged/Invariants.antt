use Rattle.std.proofs.Common.{ℕ, ◌≡◌, ◌<◌, true}
use Rattle.order_theory.specs.Basis.{times}
use Rattle.order_theory.specs.Errors.{syndrome}
use Rattle.order_theory.specs.Codes.{marked}
use Rattle.vote_core.proofs.course.is_undamaged.Given as goal

abbrev pub invariant-loop-k : goal.invariant-loop-k
invariant-loop-k g l = (q : ℕ) → q < l.k → marked l.marks q ≡ true → syndrome (times l.basis) l.basis l.list q ≡ 0
