use Rattle.eval_basis.proofs.Counting.{AreCounted}
use Rattle.eval_basis.proofs.tables.pair_counts_of.Given as goal

abbrev pub invariant-loop-sum : goal.invariant-loop-sum
invariant-loop-sum l = AreCounted l.ranks l.sums l.counts.items l.sum-index
