use Rattle.linear_theory.proofs.Columns.{left_inverse}
use Rattle.linear_theory.proofs.inverses_belong_to_independent_rows.Goals as goal

pub returns : goal.returns
returns c size mul field =
    λ n rows b. left_inverse size mul field n rows b
