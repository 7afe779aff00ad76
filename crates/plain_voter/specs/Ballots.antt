-- HasNoVote     a pair is no candidate of a member
-- HasVote       a pair is a candidate of a member, and votes for a value
-- PairVotes     what one pair says of a member
-- IsPolled      the tallies of the values, and the number of the candidates, of the pairs before (i, j)
use Rattle.std.specs.Prelude.{◌≡◌, ℕ, ◌<◌, ◌^◌, ◌&&◌, true, false, eqb, List, length, Option, Some, None}
use Rattle.counting_theory.specs.Ballots.{IsTallied, count_before}
use Rattle.counting_theory.specs.Ranks.{candidate}
use Rattle.order_theory.specs.Basis.{Basis, times, rank_at, sum_at}
use Rattle.order_theory.specs.Errors.{part_rank}
use Rattle.order_theory.specs.Voting.{vote_at}

pub record HasNoVote (b : Basis) (w : List ℕ) (k i j : ℕ) : Type 0 where
  pub none : sum_at b i j ≡ rank_at b k → candidate (part_rank (times b) b w) i j ≡ false

pub record HasVote (b : Basis) (w : List ℕ) (k i j v : ℕ) : Type 0 where
  pub at_sum : sum_at b i j ≡ rank_at b k
  pub is_candidate : candidate (part_rank (times b) b w) i j ≡ true
  pub value : v ≡ vote_at (times b) b w k i j
  pub symbol : v < 2 ^ b.bits

abbrev pub PairVotes : Basis → List ℕ → ℕ → ℕ → ℕ → Option ℕ → Type 0
PairVotes b w k i j None = HasNoVote b w k i j
PairVotes b w k i j (Some v) = HasVote b w k i j v

pub record IsPolled (b : Basis) (w : List ℕ) (k : ℕ) (tally : List ℕ) (count i j : ℕ) : Type 0 where
  pub long : length tally ≡ 2 ^ b.bits
  pub tallied : IsTallied b.n (part_rank (times b) b w) (sum_at b) (vote_at (times b) b w k) (rank_at b k) tally i j
  pub counted : count ≡ count_before b.n (λ p q. eqb (sum_at b p q) (rank_at b k) && candidate (part_rank (times b) b w) p q) i j
