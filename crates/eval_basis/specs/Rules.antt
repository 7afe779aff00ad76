-- rule_checks    whether a rule checks a member that has this label and so many pairs
-- checked_by     the mark of each member of a basis, as a rule gives it
use Rattle.std.specs.Prelude.{ℕ, Bool, List, map, nat_le, nat_lt}
use Rattle.std.specs.List.{range_with_len}
use Rattle.order_theory.specs.Basis.{Basis, label, pairs_at}
use Rattle.eval_basis.specs.declared.checked.CheckRule.{CheckRule}
use Rattle.eval_basis.specs.declared.checked.CheckRule.TheVariants.{AtMost, Small}

abbrev pub rule_checks : CheckRule → ℕ → ℕ → Bool
rule_checks (AtMost weight) label pairs = nat_le label weight
rule_checks (Small limit) label pairs = nat_lt pairs limit

abbrev pub checked_by : Basis → CheckRule → List Bool
checked_by b rule = map (λ k. rule_checks rule (label b k) (pairs_at b k)) (range_with_len 0 b.n)
