use Rattle.linear_theory.proofs.Entries.{greatest_of_rank}
use Rattle.linear_theory.proofs.Flips.{rank-flip}
use Rattle.linear_theory.proofs.Exchange.{independent_iff_rank}
use Rattle.linear_theory.proofs.rank_is_the_greatest_number.Goals as goal

pub returns : goal.returns
returns c size mul field =
    record {
      of_rows = λ n rows r b. greatest_of_rank size mul field n rows r b;
      of_columns = λ n rows r b. rank-flip size mul field n rows r b;
      all_independent = λ n rows r b. independent_iff_rank size mul field n rows r b;
    }
