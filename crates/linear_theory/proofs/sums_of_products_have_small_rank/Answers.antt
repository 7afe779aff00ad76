use Rattle.linear_theory.proofs.Columns.{products_rank}
use Rattle.linear_theory.proofs.Corners.{rank-le-weight}
use Rattle.linear_theory.proofs.sums_of_products_have_small_rank.Goals as goal

pub returns : goal.returns
returns c size mul field =
    record {
      at_most = λ k n columns rows r b. products_rank size mul field k n columns rows r b;
      at_most_weight = λ n error vectors i j. rank-le-weight size mul field n error vectors i j;
    }
