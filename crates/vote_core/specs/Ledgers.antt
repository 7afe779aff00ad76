-- line_of        the line of member k for the error e: its label, its pairs, and e's right and wrong candidates there
-- lines_below    the lines of the unmarked members below k, in their order
-- ledger_of      the lines of all unmarked members
use Rattle.std.specs.Prelude.{ℕ, suc, zero, Bool, if◌then◌else◌, List, [], ◌∷◌, ◌++◌}
use Rattle.order_theory.specs.Basis.{Basis, times, label, pairs_at}
use Rattle.order_theory.specs.Errors.{right_at, wrong_at}
use Rattle.order_theory.specs.Codes.{marked}
use Rattle.vote_core.specs.declared.ledger.VoteLine.{VoteLine}

abbrev pub line_of : Basis → List ℕ → ℕ → VoteLine
line_of b e k = record {
  label = label b k;
  pairs = pairs_at b k;
  right = right_at (times b) b e k;
  wrong = wrong_at (times b) b e k;
}

abbrev pub lines_below : Basis → List Bool → List ℕ → ℕ → List VoteLine
lines_below b marks e zero = []
lines_below b marks e (suc k) = lines_below b marks e k ++ (if marked marks k then [] else (line_of b e k ∷ []))

abbrev pub ledger_of : Basis → List Bool → List ℕ → List VoteLine
ledger_of b marks e = lines_below b marks e b.n
