use Rattle.linear_theory.proofs.Wrongs.{IsRank-rank}
use Rattle.linear_theory.proofs.ranks_of_parts_step_by_one.Goals as goal

pub returns : goal.returns
returns c size mul field =
    λ n rows b. IsRank-rank size mul field n rows b
