-- IsTurn      the working list takes on the syndrome that wins the vote on one member, with the line of that vote
use Rattle.std.specs.Prelude.{◌≡◌, ℕ, ◌+◌, List}
use Rattle.order_theory.specs.Basis.{Basis, times, label, pairs_at}
use Rattle.order_theory.specs.Course.{IsMoved}
use Rattle.order_theory.specs.Voting.{IsElected, votes_at, candidates_at}
use Rattle.vote_core.specs.declared.ledger.VoteLine.{VoteLine}

pub record IsTurn (b : Basis) (w : List ℕ) (k : ℕ) (w' : List ℕ) (line : VoteLine) : Type 0 where
  pub winner : ℕ
  pub elected : IsElected (times b) b w k winner
  pub moved : IsMoved (times b) b w k winner w'
  pub line_label : line.label ≡ label b k
  pub line_pairs : line.pairs ≡ pairs_at b k
  pub line_right : line.right ≡ votes_at (times b) b w k winner
  pub line_all : line.right + line.wrong ≡ candidates_at (times b) b w k
