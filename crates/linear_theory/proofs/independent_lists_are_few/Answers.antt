use Rattle.linear_theory.proofs.Exchange.{exchange}
use Rattle.linear_theory.proofs.Duals.{too_many}
use Rattle.linear_theory.proofs.independent_lists_are_few.Goals as goal

pub returns : goal.returns
returns c size mul field =
    record {
      at_most_as_many = λ n others s rows r b h all. exchange size mul field n others s rows r b h all;
      one_too_many = λ n rows b h. too_many size mul field n rows b h;
    }
