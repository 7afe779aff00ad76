use Rattle.linear_theory.proofs.Duals.{dual_exists, dual_unique, independent_of_dual, dual_combination}
use Rattle.linear_theory.proofs.independent_lists_have_one_dual.Goals as goal

pub returns : goal.returns
returns c size mul field =
    record {
      exists = λ n rows b h. dual_exists size mul field n rows b h;
      no_other = λ n rows duals others b d h k. dual_unique size mul field n rows duals others b d h k;
      independent = λ n rows duals h. independent_of_dual size mul field n rows duals h;
      combination = λ n rows duals v b d h. dual_combination size mul field n rows duals v b d h;
    }
