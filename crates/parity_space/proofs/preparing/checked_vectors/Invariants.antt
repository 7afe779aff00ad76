use Rattle.std.proofs.Common.{◌≡◌, length}
use Rattle.block_theory.proofs.Choosing.{set_marks}
use Rattle.parity_space.proofs.Collecting.{IsCollected}
use Rattle.parity_space.proofs.preparing.checked_vectors.Given as goal

abbrev pub invariant-loop-k : goal.invariant-loop-k
invariant-loop-k g l = record {
  cols : l.vectors.cols ≡ l.basis.n;
  size : length l.vectors.rows ≡ set_marks l.checked;
  collected : IsCollected l.checked l.basis.vectors l.vectors.rows l.k l.next;
}
