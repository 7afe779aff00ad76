use Rattle.std.proofs.Common.{ℕ, ◌<◌, ◌≤◌}
use Rattle.order_theory.specs.Basis.{sum_at}
use Rattle.product_classes.proofs.reaches.reach_of.Given as goal

abbrev pub invariant-loop-j : goal.invariant-loop-j
invariant-loop-j g l = (q : ℕ) → l.j ≤ q → q < l.most → l.limit ≤ sum_at l.basis l.i q
