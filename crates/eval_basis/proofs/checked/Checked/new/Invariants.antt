use Rattle.std.proofs.Common.{◌≡◌, ◌≤◌, map, count_by}
use Rattle.std.specs.List.{range_with_len}
use Rattle.order_theory.specs.Basis.{label, pairs_at}
use Rattle.eval_basis.specs.Rules.{rule_checks}
use Rattle.eval_basis.proofs.checked.Checked.new.Given as goal

abbrev pub invariant-loop-k : goal.invariant-loop-k
invariant-loop-k g l = record {
  made : l.marks.items ≡ map (λ i. rule_checks l.rule (label l.basis i) (pairs_at l.basis i)) (range_with_len 0 l.k);
  counted : l.size ≡ count_by (λ m. m) l.marks.items;
  few : l.size ≤ l.k;
}
