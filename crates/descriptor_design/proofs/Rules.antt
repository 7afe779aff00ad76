-- With another rule a descriptor has the same members
use Rattle.std.proofs.Common.{◌≡◌, ℕ, ◌*◌, ◌<◌, ◌≤◌, refl, arith}
use Rattle.eval_basis.specs.declared.checked.CheckRule.{CheckRule}
use Rattle.code_descriptor.specs.Parts.{Parts}
use Rattle.descriptor_code.specs.Plain.{is_new, members, checked, free, bound, radius}
use Rattle.descriptor_design.specs.Sets.{by_rule, checked_in, free_in, bound_of, Serves, with_rule, RuleLaw}

checked_same : (p : Parts) (rule : CheckRule) → checked (with_rule p rule) ≡ checked_in p (by_rule p rule)
unfolding checked checked_in members is_new
checked_same p rule = refl

bound_same : (p : Parts) (rule : CheckRule) → bound (with_rule p rule) ≡ bound_of p (by_rule p rule)
unfolding bound bound_of free free_in members is_new
bound_same p rule = refl

repairs : (p : Parts) (rule : CheckRule) (t : ℕ) → Serves p t (by_rule p rule) → t ≤ radius (with_rule p rule)
unfolding radius
repairs p rule t serves =
    let same : bound (with_rule p rule) ≡ bound_of p (by_rule p rule) = bound_same p rule in
    let above : 2 * t < bound_of p (by_rule p rule) = serves in
    omega arith

pub rule_law : RuleLaw
rule_law p rule = record { checked_are = checked_same p rule; bound_is = bound_same p rule; repairs = λ t serves. repairs p rule t serves }
