use Rattle.linear_theory.proofs.Reduced.{reduced_unique, reduced_rank}
use Rattle.linear_theory.proofs.Free.{reduced_not_free, reduced_free, free_span}
use Rattle.linear_theory.proofs.reduced_form_is_unique.Goals as goal

pub returns : goal.returns
returns c size mul field =
    record {
      no_other = λ n rows others r k m b d h g e. reduced_unique size mul field n rows others r k m b d h g e;
      count_is_rank = λ n rows r k h. reduced_rank size mul field n rows r k h;
      pivots_not_free = λ n rows r k t h l f. reduced_not_free size mul field n rows r k t h l f;
      others_free = λ n rows r k j h l d. reduced_free size mul field n rows r k j h l d;
      same_free = λ n rows others r s j b d e l f. free_span size mul field n rows others r s j b d e l f;
    }
