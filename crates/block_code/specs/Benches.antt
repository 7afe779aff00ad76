-- BenchState    what contracts see of a bench: what it keeps of its code, and the ledger
-- is_near       whether a verdict names a codeword
-- values_of     for how many values of classes a bench has room
-- PartsFit      what holds of the parts of a bench: they are for one length, and the guess is for the field of the poll
-- state_of      the state of a bench whose poll has these numbers: the poll's ledger where it is told, and else none
use Rattle.std.specs.Prelude.{◌≡◌, ℕ, ◌+◌, ◌*◌, Bool, true, false, cond, List, [], length}
use Rattle.coded_block.specs.Codes.{BenchNumbers}
use Rattle.coded_block.specs.declared.Verdict.{Verdict}
use Rattle.coded_block.specs.declared.Verdict.TheVariants.{Near, Beyond}
use Rattle.vote_core.specs.declared.ledger.VoteLine.{VoteLine}
use Rattle.vote_core.specs.Voters.{VoterState}
use Rattle.vote_core.specs.Polls.{PollState}
use Rattle.error_guess.specs.Guesses.{GuessState}

pub record BenchState : Type 0 where
  pub numbers : BenchNumbers
  pub ledger : List VoteLine

abbrev pub is_near : Verdict → Bool
is_near (Near changes) = true
is_near Beyond = false

abbrev pub values_of : ℕ → ℕ
values_of n = n * n + 15

pub record PartsFit (p : PollState) (g : GuessState) (differences room : ℕ) : Type 0 where
  pub values_long : length p.values ≡ values_of p.voter.n
  pub differences_long : differences ≡ p.voter.n
  pub room_long : room ≡ p.voter.n
  pub guess_bits : g.bits ≡ p.voter.bits
  pub guess_modulus : g.modulus ≡ p.voter.modulus
  pub guess_n : g.n ≡ p.voter.n

abbrev pub state_of : VoterState → Bool → BenchState
state_of v told = record {
  numbers = record { bits = v.bits; modulus = v.modulus; n = v.n; marks = v.marks; radius = v.t };
  ledger = cond told v.ledger [];
}
