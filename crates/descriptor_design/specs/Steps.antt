-- What the private steps of a design leave, over a basis
--
-- IsBasisOf      a sound basis is that of the points of a descriptor
-- order_of       the numbers of the order plan, if there is one
-- numbers_at     the label and the pairs of member k
-- stop_of        those of the stop, if there is one
-- improved_of    the numbers of the improved plan
-- few_numbers    the numbers of the members that have at most 2t pairs
use Rattle.std.specs.Prelude.{ℕ, List, map, Option, option_map}
use Rattle.std.specs.List.{range_with_len}
use Rattle.order_theory.specs.Basis.{Basis, label, pairs_at, IsSoundBasis}
use Rattle.eval_basis.specs.Built.{IsBuilt}
use Rattle.block_theory.specs.Marked.{chosen}
use Rattle.code_design.specs.declared.plans.Plan.{Plan}
use Rattle.code_design.specs.Serving.{improved}
use Rattle.code_texts.specs.declared.design.PlanNumbers.{PlanNumbers}
use Rattle.code_texts.specs.declared.design.MemberNumbers.{MemberNumbers}
use Rattle.code_descriptor.specs.Parts.{Parts, IsDescriptor}
use Rattle.descriptor_code.specs.Codes.{domain_of}

pub record IsBasisOf (p : Parts) (b : Basis) : Type 0 where
  pub descriptor : IsDescriptor p
  pub built : IsBuilt (domain_of p) p.modulus p.points b
  pub sound : IsSoundBasis b

abbrev pub plan_numbers : ℕ → ℕ → ℕ → PlanNumbers
plan_numbers first checks bound = record { first = first; checks = checks; bound = bound }

abbrev pub order_of : Plan → Option PlanNumbers
order_of plan = option_map (λ w. plan_numbers w plan.order_checks plan.order_bound) plan.order

abbrev pub numbers_at : Basis → ℕ → MemberNumbers
numbers_at b k = record { label = label b k; pairs = pairs_at b k }

abbrev pub stop_of : Basis → Option ℕ → Option MemberNumbers
stop_of b stop = option_map (numbers_at b) stop

abbrev pub improved_of : Plan → PlanNumbers
improved_of plan = plan_numbers plan.pairs plan.checks plan.bound

abbrev pub few_numbers : Basis → ℕ → List MemberNumbers
few_numbers b t = chosen (improved b t) (map (numbers_at b) (range_with_len 0 b.n))
