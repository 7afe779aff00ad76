use Rattle.solution_theory.proofs.Homogeneous.{at_free, past_free, same_past_free}
use Rattle.solution_theory.proofs.free_columns_decide_solutions.Goals as goal

pub returns : goal.returns
returns c size mul field = record {
  at_free = λ n rows r j b l free. at_free size mul field n rows r j b l free;
  zero_past_free = λ n rows r j x b none z q a l. past_free size mul field n rows r j x b none z q a l;
  same_past_free = λ n rows r j x z b none bx bz sx sz q a l. same_past_free size mul field n rows r j x z b none bx bz sx sz q a l;
}
