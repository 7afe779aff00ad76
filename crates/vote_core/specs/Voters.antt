-- VoterState    what contracts see of a voter: its field, its length, the marks, the radius and the ledger
-- Fits          a voter may be used with a basis
-- Told          what an answer leaves of a voter: the ledger of the error that was found, or none
use Rattle.std.specs.Prelude.{◌≡◌, ℕ, ◌+◌, ◌*◌, ◌<◌, Bool, false, List, [], All}
use Rattle.order_theory.specs.Basis.{Basis}
use Rattle.order_theory.specs.Codes.{marked, IsBound}
use Rattle.vote_core.specs.Ledgers.{ledger_of}
use Rattle.vote_core.specs.declared.ledger.VoteLine.{VoteLine}
use Rattle.vote_core.specs.declared.voter.Found.{Found}
use Rattle.vote_core.specs.declared.voter.Found.TheVariants.{Error, Far}

pub record VoterState : Type 0 where
  pub bits : ℕ
  pub modulus : ℕ
  pub n : ℕ
  pub marks : List Bool
  pub t : ℕ
  pub ledger : List VoteLine

-- The field and the length are those of the basis, some member is unmarked, and twice the radius is below the pairs of
-- each unmarked member
pub record Fits (v : VoterState) (b : Basis) : Type 0 where
  pub bits : v.bits ≡ b.bits
  pub modulus : v.modulus ≡ b.modulus
  pub n : v.n ≡ b.n
  pub some_free : (k : ℕ) × (k < b.n) × (marked v.marks k ≡ false)
  pub radius : IsBound b v.marks (2 * v.t + 1)

-- After Error the ledger is that of the error, with more right candidates than wrong ones on each line; after Far it is
-- empty. All else of the voter is as before
pub record HasLedger (b : Basis) (v : VoterState) (err : List ℕ) (w : VoterState) : Type 0 where
  pub kept : w ≡ record v { ledger = ledger_of b v.marks err }
  pub majority : All (λ line. line.wrong < line.right) w.ledger

pub record HasNoLedger (v w : VoterState) : Type 0 where
  pub kept : w ≡ record v { ledger = [] }

abbrev pub Told : Basis → VoterState → List ℕ → Found → VoterState → Type 0
Told b v err Error w = HasLedger b v err w
Told b v err Far w = HasNoLedger v w
