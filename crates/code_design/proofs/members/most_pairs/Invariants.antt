use Rattle.std.proofs.Common.{ℕ, ◌≡◌, ◌<◌, ◌≤◌}
use Rattle.order_theory.specs.Basis.{pairs_at}
use Rattle.code_design.proofs.members.most_pairs.Given as goal

abbrev pub invariant-loop-k : goal.invariant-loop-k
invariant-loop-k g l = record {
  reached : (j : ℕ) × (j < l.k) × (pairs_at l.basis j ≡ l.most);
  greatest : (j : ℕ) → j < l.k → pairs_at l.basis j ≤ l.most;
}
