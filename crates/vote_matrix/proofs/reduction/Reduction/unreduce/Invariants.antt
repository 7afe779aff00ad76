use Rattle.std.proofs.Common.{ℕ, ◌≡◌, ◌<◌, ◌^◌, All, slice_index}
use Rattle.vote_matrix.specs.Elimination.{IsEliminationOf, kept_at}
use Rattle.vote_matrix.specs.Stored.{AreAbove, elimination_of, mixed_at}
use Rattle.vote_matrix.proofs.reduction.Reduction.unreduce.Given as goal

abbrev pub invariant-loop-t : goal.invariant-loop-t
invariant-loop-t g l = record {
  symbols : All (λ x. x < 2 ^ l.self.bits) l.out;
  above : AreAbove (elimination_of l.self) l.i (slice_index l.out);
  sum : (S : ℕ → ℕ → ℕ) (j : ℕ) → IsEliminationOf S (elimination_of l.self) → j < slice_index l.self.known.items l.i → mixed_at (elimination_of l.self) S (slice_index l.out) l.t j ≡ kept_at (elimination_of l.self) l.i j;
}
