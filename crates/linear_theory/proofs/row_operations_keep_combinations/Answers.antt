use Rattle.linear_theory.proofs.Steps.{span_after_scale, span_after_sweep, span_after_moves, span_iff, span_rank}
use Rattle.linear_theory.proofs.row_operations_keep_combinations.Goals as goal

pub returns : goal.returns
returns c size mul field =
    record {
      scaled = λ n rows others r k x b d lk lx ne new old. span_after_scale size mul field n rows others r k x b d lk lx ne new old;
      swept = λ n rows others r k x b d lk new old. span_after_sweep size mul field n rows others r k x b d lk new old;
      moved = λ n rows others r b d from to. span_after_moves size mul field n rows others r b d from to;
      same_combinations = λ n rows others r s v h. span_iff size mul field v h;
      same_rank = λ n rows others r s b d h. span_rank size mul field b d h;
    }
