use Rattle.linear_theory.proofs.Corners.{candidate_value}
use Rattle.linear_theory.proofs.Free.{keeps_unique}
use Rattle.linear_theory.proofs.one_value_keeps_the_rank.Goals as goal

pub returns : goal.returns
returns c size mul field =
    record {
      some_value = λ rows i j b w.
          let v = candidate_value size mul field rows b i j w.row w.column in
          (v.0, v.1, record { rank_is = v.2 });
      no_other = λ rows i j x y b w lx ly hx hy. keeps_unique size mul field rows i j x y b w lx ly hx hy;
    }
