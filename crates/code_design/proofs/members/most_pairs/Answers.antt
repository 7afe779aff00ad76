use Rattle.std.proofs.Common.{rules, ◌≡◌}
use Rattle.order_theory.specs.Basis.{pairs_at}
use Rattle.code_design.proofs.Lasts.{greatest_more, reached_more}
use Rattle.code_design.proofs.members.most_pairs.Goals as goal

pub loop-k-preserved : goal.loop-k-preserved
loop-k-preserved g c =
    let is : c.pairs.result ≡ pairs_at c.args.basis.now c.loop-k.k = search rules in
    record {
      reached = reached_more c.args.basis.now c.loop-k.k c.loop-k.most c.max-most.result c.pairs.result c.loop-k.invariant.reached is c.max-most.ensures;
      greatest = greatest_more c.args.basis.now c.loop-k.k c.loop-k.most c.max-most.result c.pairs.result c.loop-k.invariant.greatest is c.max-most.ensures;
    }
