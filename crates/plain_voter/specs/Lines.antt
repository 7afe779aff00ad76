-- IsTurn         the working list takes on the syndrome that wins the vote on one member, with the line of that vote
-- line_of        the line of member k for the error e: its label, its pairs, and e's right and wrong candidates there
-- lines_below    the lines of the unmarked members below k, in their order
-- Recovers       the working list keeps the syndromes of the marked members, and becomes each error of weight at most t; the
--                lines become those of that error
use Rattle.std.specs.Prelude.{◌≡◌, ℕ, zero, suc, ◌+◌, ◌*◌, ◌<◌, Bool, true, if◌then◌else◌, List, [], ◌∷◌, ◌++◌}
use Rattle.order_theory.specs.Basis.{Basis, IsWord, times, label, pairs_at}
use Rattle.order_theory.specs.Codes.{marked, IsBound}
use Rattle.order_theory.specs.Course.{IsErrorOf, IsMoved}
use Rattle.order_theory.specs.Errors.{syndrome, right_at, wrong_at}
use Rattle.order_theory.specs.Voting.{IsElected, votes_at, candidates_at}
use Rattle.plain_voter.specs.declared.line.PlainLine.{PlainLine}

pub record IsTurn (b : Basis) (w : List ℕ) (k : ℕ) (w' : List ℕ) (line : PlainLine) : Type 0 where
  pub winner : ℕ
  pub elected : IsElected (times b) b w k winner
  pub moved : IsMoved (times b) b w k winner w'
  pub line_label : line.label ≡ label b k
  pub line_pairs : line.pairs ≡ pairs_at b k
  pub line_right : line.right ≡ votes_at (times b) b w k winner
  pub line_all : line.right + line.wrong ≡ candidates_at (times b) b w k

abbrev pub line_of : Basis → List ℕ → ℕ → PlainLine
line_of b e k = record {
  label = label b k;
  pairs = pairs_at b k;
  right = right_at (times b) b e k;
  wrong = wrong_at (times b) b e k;
}

abbrev pub lines_below : Basis → List Bool → List ℕ → ℕ → List PlainLine
lines_below b marks e zero = []
lines_below b marks e (suc k) = lines_below b marks e k ++ (if marked marks k then [] else (line_of b e k ∷ []))

pub record Recovers (b : Basis) (marks : List Bool) (y w : List ℕ) (lines : List PlainLine) : Type 0 where
  pub word : IsWord b.bits b.n w
  pub kept : (m : ℕ) → m < b.n → marked marks m ≡ true → syndrome (times b) b w m ≡ syndrome (times b) b y m
  pub error : (t : ℕ) (e : List ℕ) → IsBound b marks (2 * t + 1) → IsErrorOf (times b) b marks t y e → w ≡ e
  pub told : (t : ℕ) (e : List ℕ) → IsBound b marks (2 * t + 1) → IsErrorOf (times b) b marks t y e → lines ≡ lines_below b marks e b.n
