use Rattle.std.proofs.Common.{ℕ, ◌≡◌, ◌≤◌, List, take, All}
use Rattle.order_theory.specs.Basis.{IsWord}
use Rattle.vote_core.specs.Ledgers.{lines_below}
use Rattle.vote_core.proofs.runs.write_unanimous.Given as goal

abbrev pub invariant-loop-k : goal.invariant-loop-k
invariant-loop-k g l = record {
  few : l.told ≤ l.k;
  written : (e : List ℕ) → IsWord l.basis.bits l.basis.n e → All (λ x. x ≡ 0) e → take l.told l.lines ≡ lines_below l.basis l.marks e l.k;
}
