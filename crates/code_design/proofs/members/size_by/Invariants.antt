use Rattle.std.proofs.Common.{◌≡◌, ◌≤◌, map}
use Rattle.std.specs.List.{range_with_len}
use Rattle.order_theory.specs.Basis.{label, pairs_at}
use Rattle.eval_basis.specs.Rules.{rule_checks}
use Rattle.code_design.specs.Serving.{size_of}
use Rattle.code_design.proofs.members.size_by.Given as goal

abbrev pub invariant-loop-k : goal.invariant-loop-k
invariant-loop-k g l = record {
  counted : l.size ≡ size_of (map (λ i. rule_checks l.rule (label l.basis i) (pairs_at l.basis i)) (range_with_len 0 l.k));
  few : l.size ≤ l.k;
}
