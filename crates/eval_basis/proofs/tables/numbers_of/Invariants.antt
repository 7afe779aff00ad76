use Rattle.std.proofs.Common.{◌≡◌, length}
use Rattle.eval_basis.proofs.Counting.{AreNumbered}
use Rattle.eval_basis.proofs.tables.numbers_of.Given as goal

abbrev pub invariant-loop-k : goal.invariant-loop-k
invariant-loop-k l = record {
  long : length l.numbers.items ≡ l.count;
  numbered : AreNumbered (length l.ranks) l.ranks l.numbers.items l.k;
}
