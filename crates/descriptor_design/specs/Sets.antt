-- Sets of members to check, each given by a test of functions. The rule of a descriptor is one such test: what `Plain` of
-- descriptor_code says of it is said here of any.
--
-- by_rule         the test of a rule: of the label of a function, or of its pairs
-- up_to           the test of the labels that are at most a weight
-- fewer_than      the test of the functions that have fewer pairs than a number
-- checked_in      the members that pass a test
-- free_in         the members that do not
-- bound_of        the order bound of the code that checks those that pass: the least number of pairs of a free member. 0 of
--                 none
-- Serves          that bound is above 2t, so that the code that checks those that pass repairs t errors
-- with_rule       the parts of a descriptor, with another rule
-- HasRule         the code of a descriptor that has a rule checks just the members that pass its test, and has the bound of
--                 these; where they serve t, its radius is at least t
-- RuleLaw         the theorem: so it is for each rule
use Rattle.std.specs.Prelude.{◌≡◌, ℕ, ◌*◌, ◌<◌, ◌≤◌, Bool, not, List, map, filter}
use Rattle.eval_basis.specs.Rules.{rule_checks}
use Rattle.eval_basis.specs.declared.checked.CheckRule.{CheckRule}
use Rattle.eval_basis.specs.declared.checked.CheckRule.TheVariants.{AtMost, Small}
use Rattle.code_descriptor.specs.Parts.{Parts}
use Rattle.descriptor_code.specs.Plain.{functions_in, members, pairs_of, least_of, checked, bound, radius}

abbrev pub by_rule : Parts → CheckRule → ℕ → Bool
by_rule p rule i = rule_checks rule ((functions_in p).label i) (pairs_of p i)

abbrev pub up_to : Parts → ℕ → ℕ → Bool
up_to p weight = by_rule p (AtMost weight)

abbrev pub fewer_than : Parts → ℕ → ℕ → Bool
fewer_than p number = by_rule p (Small number)

unfoldable pub checked_in : Parts → (ℕ → Bool) → List ℕ
checked_in p passes = filter passes (members p)

unfoldable pub free_in : Parts → (ℕ → Bool) → List ℕ
free_in p passes = filter (λ i. not (passes i)) (members p)

unfoldable pub bound_of : Parts → (ℕ → Bool) → ℕ
bound_of p passes = least_of (map (pairs_of p) (free_in p passes))

abbrev pub Serves : Parts → ℕ → (ℕ → Bool) → Type 0
Serves p t passes = 2 * t < bound_of p passes

abbrev pub with_rule : Parts → CheckRule → Parts
with_rule p rule = record p { rule = rule }

pub record HasRule (p : Parts) (rule : CheckRule) : Type 0 where
  pub checked_are : checked (with_rule p rule) ≡ checked_in p (by_rule p rule)
  pub bound_is : bound (with_rule p rule) ≡ bound_of p (by_rule p rule)
  pub repairs : (t : ℕ) → Serves p t (by_rule p rule) → t ≤ radius (with_rule p rule)

abbrev pub RuleLaw : Type 0
RuleLaw = (p : Parts) (rule : CheckRule) → HasRule p rule
