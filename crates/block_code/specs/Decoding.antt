-- IsNearWord     a codeword that differs from a block in at most `radius` bytes, and in how many
-- IsFarWord      no codeword does so, and the word is the low bits of the block
-- IsVerdict      what each verdict on a block says of the word that is written
-- ledger_after   the ledger after it: that of the error of the low bits, or none
use Rattle.std.specs.Prelude.{◌≡◌, ℕ, List, []}
use Rattle.order_theory.specs.Basis.{times}
use Rattle.order_theory.specs.Codes.{IsNear, distance, low_bits, list_sum}
use Rattle.vote_core.specs.declared.ledger.VoteLine.{VoteLine}
use Rattle.vote_core.specs.Ledgers.{ledger_of}
use Rattle.coded_block.specs.declared.Verdict.{Verdict}
use Rattle.coded_block.specs.declared.Verdict.TheVariants.{Near, Beyond}
use Rattle.block_code.specs.Compiled.{Compiled}

-- bytes are compared whole, not by their low bits
pub record IsNearWord (c : Compiled) (got word : List ℕ) (changes : ℕ) : Type 0 where
  pub near : IsNear (times c.basis) c.basis c.marks c.radius got word
  pub changes_are : changes ≡ distance got word

pub record IsFarWord (c : Compiled) (got word : List ℕ) : Type 0 where
  pub none : (x : List ℕ) → IsNear (times c.basis) c.basis c.marks c.radius got x → ⊥
  pub low : word ≡ low_bits c.basis.bits got

abbrev pub IsVerdict : Compiled → List ℕ → List ℕ → Verdict → Type 0
IsVerdict c got word (Near changes) = IsNearWord c got word changes
IsVerdict c got word Beyond = IsFarWord c got word

abbrev pub ledger_after : Compiled → List ℕ → List ℕ → Verdict → List VoteLine
ledger_after c got word (Near changes) = ledger_of c.basis c.marks (list_sum (low_bits c.basis.bits got) word)
ledger_after c got word Beyond = []
