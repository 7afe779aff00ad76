-- RowVotes    what one row says of a member: nothing, or the vote of the one candidate that it has
-- AreVotes    a list has what each of the rows above i says of a member
-- IsShown     what the vote on a member sees of a working list: its syndrome there, its entries up to that sum, and an
--             elimination of its matrix
use Rattle.std.specs.Prelude.{◌≡◌, ℕ, ◌+◌, ◌<◌, ◌^◌, true, false, List, slice_index_or, Option, Some, None}
use Rattle.counting_theory.specs.Ranks.{candidate}
use Rattle.order_theory.specs.Basis.{Basis, IsWord, times, rank_at, sum_at}
use Rattle.order_theory.specs.Errors.{entry, part_rank, syndrome}
use Rattle.order_theory.specs.Voting.{vote_at}
use Rattle.product_classes.specs.Table.{ClassTable}
use Rattle.product_classes.specs.Values.{AreValues}
use Rattle.vote_matrix.specs.Elimination.{Elimination, IsEliminationOf}

pub record HasNoVote (b : Basis) (w : List ℕ) (k i : ℕ) : Type 0 where
  pub none : (j : ℕ) → j < b.n → sum_at b i j ≡ rank_at b k → candidate (part_rank (times b) b w) i j ≡ false

pub record HasVote (b : Basis) (w : List ℕ) (k i v : ℕ) : Type 0 where
  pub column : ℕ
  pub inside : column < b.n
  pub at_sum : sum_at b i column ≡ rank_at b k
  pub is_candidate : candidate (part_rank (times b) b w) i column ≡ true
  pub value : v ≡ vote_at (times b) b w k i column
  pub symbol : v < 2 ^ b.bits

abbrev pub RowVotes : Basis → List ℕ → ℕ → ℕ → Option ℕ → Type 0
RowVotes b w k i None = HasNoVote b w k i
RowVotes b w k i (Some v) = HasVote b w k i v

pub record AreVotes (b : Basis) (w : List ℕ) (k : ℕ) (votes : List (Option ℕ)) (i : ℕ) : Type 0 where
  pub at : (a : ℕ) → a < i → RowVotes b w k a (slice_index_or votes a None)

pub record IsShown (b : Basis) (table : ClassTable) (w values : List ℕ) (m : Elimination) (k known : ℕ) : Type 0 where
  pub word : IsWord b.bits b.n w
  pub known_is : known ≡ syndrome (times b) b w k
  pub values_are : AreValues b table w values (rank_at b k + 1)
  pub matrix : IsEliminationOf (entry (times b) b w) m
