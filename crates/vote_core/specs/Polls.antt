-- PollState     what contracts see of a poll: its numbers with the ledger so far, the working list, the values of the
--               classes of equal products, the matrix, and the member and the row that come next
-- without_ledger    the numbers of a voter alone
-- steps_left    a number that falls with each step
-- CanPursue     a poll may be started with a basis and its classes
-- IsReady       what a poll holds between two steps, whatever list was received
-- Pursues       a poll is on its way to the answer for a received list
-- Says          what a poll holds once its answer is there
-- Comes         what a step leaves, by what it answers
use Rattle.std.specs.Prelude.{◌≡◌, ℕ, ◌+◌, ◌-◌, ◌*◌, ◌<◌, ◌≤◌, true, false, List, [], length}
use Rattle.order_theory.specs.Basis.{Basis, IsWord, times, rank_at}
use Rattle.order_theory.specs.Errors.{syndrome}
use Rattle.order_theory.specs.Codes.{marked}
use Rattle.order_theory.specs.Course.{IsErrorOf}
use Rattle.order_theory.specs.Voting.{SameBelow}
use Rattle.product_classes.specs.Table.{ClassTable, AreClassesOf}
use Rattle.product_classes.specs.Values.{AreValues}
use Rattle.vote_matrix.specs.Elimination.{Elimination}
use Rattle.vote_core.specs.Found.{IsAnswer}
use Rattle.vote_core.specs.Ledgers.{lines_below}
use Rattle.vote_core.specs.Reading.{IsRead}
use Rattle.vote_core.specs.Voters.{VoterState, Fits, Told}
use Rattle.vote_core.specs.declared.voter.Found.{Found}
use Rattle.vote_core.specs.declared.poll.Step.{Step}
use Rattle.vote_core.specs.declared.poll.Step.TheVariants.{Row, Elected, Ended}

pub record PollState : Type 0 where
  pub voter : VoterState
  pub list : List ℕ
  pub values : List ℕ
  pub matrix : Elimination
  pub member : ℕ
  pub row : ℕ

abbrev pub without_ledger : VoterState → VoterState
without_ledger v = record v { ledger = [] }

unfoldable pub steps_left : PollState → ℕ
steps_left p = (p.voter.n - p.member) * (p.voter.n + 2) + (p.voter.n - p.row)

-- There is room for a value of each class
pub record CanPursue (b : Basis) (table : ClassTable) (p : PollState) : Type 0 where
  pub fits : Fits p.voter b
  pub classes : AreClassesOf b table
  pub room : table.size ≤ length p.values

-- The next member is not checked, or all members are done. Below it the values and the matrix are those of the working
-- list, and the matrix has no more pivots than an error has symbols
pub record IsReady (b : Basis) (table : ClassTable) (p : PollState) : Type 0 where
  pub can : CanPursue b table p
  pub word : IsWord b.bits b.n p.list
  pub inside : p.member ≤ b.n
  pub row_inside : p.row ≤ b.n
  pub free : p.member < b.n → marked p.voter.marks p.member ≡ false
  pub values : p.member < b.n → AreValues b table p.list p.values (rank_at b p.member)
  pub read : p.member < b.n → IsRead b p.list p.matrix (rank_at b p.member) p.row
  pub few_pivots : p.matrix.count ≤ p.voter.t
  pub few_lines : length p.voter.ledger ≤ p.member

-- The poll began as v, with the list y. The working list has the syndromes of y at the checked members, and below the next
-- member those of each error of y; the lines are those of the error
pub record Pursues (b : Basis) (table : ClassTable) (v : VoterState) (y : List ℕ) (p : PollState) : Type 0 where
  pub ready : IsReady b table p
  pub received : IsWord b.bits b.n y
  pub numbers : without_ledger p.voter ≡ without_ledger v
  pub kept : (m : ℕ) → m < b.n → marked v.marks m ≡ true → syndrome (times b) b p.list m ≡ syndrome (times b) b y m
  pub course : (e : List ℕ) → IsErrorOf (times b) b v.marks v.t y e → SameBelow (times b) b e p.list p.member
  pub ledger : (e : List ℕ) → IsErrorOf (times b) b v.marks v.t y e → p.voter.ledger ≡ lines_below b v.marks e p.member

-- the working list is the error, or all 0
pub record Says (b : Basis) (v : VoterState) (y : List ℕ) (found : Found) (p : PollState) : Type 0 where
  pub answer : IsAnswer b v.marks v.t y p.list found
  pub told : Told b v p.list found p.voter

pub record GoesOn (b : Basis) (table : ClassTable) (v : VoterState) (y : List ℕ) (p p' : PollState) : Type 0 where
  pub pursues : Pursues b table v y p'
  pub fewer : steps_left p' < steps_left p

pub record HasRow (b : Basis) (table : ClassTable) (v : VoterState) (y : List ℕ) (p p' : PollState) (i : ℕ) : Type 0 where
  pub goes_on : GoesOn b table v y p p'
  pub inside : i < b.n

abbrev pub Comes : Basis → ClassTable → VoterState → List ℕ → PollState → PollState → Step → Type 0
Comes b table v y p p' (Row i) = HasRow b table v y p p' i
Comes b table v y p p' Elected = GoesOn b table v y p p'
Comes b table v y p p' (Ended found) = Says b v y found p'
