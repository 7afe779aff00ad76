use Rattle.std.proofs.Common.{sym}
use Rattle.std.proofs.lemmas.Bool.{both_ways}
use Rattle.weight_semi.proofs.Coprime.{are_generators-decides, are_generators-no}
use Rattle.weight_semi.proofs.Semi.new.Goals as goal

pub returns-then-are_generators-clause-test : goal.returns-then-are_generators-clause-test
returns-then-are_generators-clause-test c =
    sym ((are_generators-decides c.args.a c.args.b).1 (c.are_generators.ensures.0 c.if-are_generators.true))

pub returns-else-are_generators-clause-test : goal.returns-else-are_generators-clause-test
returns-else-are_generators-clause-test c =
    sym (are_generators-no c.args.a c.args.b (λ g. both_ways c.are_generators.result c.if-are_generators.false (c.are_generators.ensures.1 g)))
