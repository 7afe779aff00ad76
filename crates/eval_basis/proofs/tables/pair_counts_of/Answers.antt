use Rattle.eval_basis.proofs.Counting.{sum_of_member, sum_of_none, sum_past}
use Rattle.eval_basis.proofs.tables.pair_counts_of.Goals as goal
use Rattle.eval_basis.proofs.tables.pair_counts_of.Goals.{then-sum-count+then-k-ranks, then-sum-count+else-k-ranks, else-sum-count}

pub loop-sum-preserved : goal.loop-sum-preserved
loop-sum-preserved c =
    elim c.if-sum-count.branch [
      | then-sum-count+then-k-ranks w ↦
          rw w.counts-is
          (sum_of_member c.args.count c.args.ranks.now c.in_ok-numbers.numbers.items c.args.sums.now c.loop-sum.counts.items c.loop-sum.sum-index c.in_ok-numbers.ensures.long c.requires.below c.in_ok-numbers.ensures.member c.in_ok-numbers.ensures.found c.loop-sum-test.true c.loop-sum.invariant
          w.index.result.now w.index_mut.result.now w.if-sum-count.true w.index.ensures w.if-k-ranks.true w.index_mut.ensures.value)
      | then-sum-count+else-k-ranks w ↦
          rw w.counts-is
          (sum_of_none c.args.count c.args.ranks.now c.in_ok-numbers.numbers.items c.args.sums.now c.loop-sum.counts.items c.loop-sum.sum-index c.in_ok-numbers.ensures.long c.requires.below c.in_ok-numbers.ensures.member c.in_ok-numbers.ensures.found c.loop-sum-test.true c.loop-sum.invariant
          w.index.result.now w.if-sum-count.true w.index.ensures w.if-k-ranks.false)
      | else-sum-count w ↦
          rw w.counts-is
          (sum_past c.args.count c.args.ranks.now c.in_ok-numbers.numbers.items c.args.sums.now c.loop-sum.counts.items c.loop-sum.sum-index c.in_ok-numbers.ensures.long c.requires.below c.in_ok-numbers.ensures.member c.in_ok-numbers.ensures.found c.loop-sum-test.true c.loop-sum.invariant
          w.if-sum-count.false)
    ]
