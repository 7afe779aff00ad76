-- PivotLaw    a matrix that is known below a member has no more pivots than an error with those syndromes has symbols
-- LineLaw     no error has a line whose pairs and wrong candidates are more than the right ones and twice the weight
use Rattle.std.specs.Prelude.{ℕ, ◌+◌, ◌*◌, ◌<◌, ◌≤◌, List}
use Rattle.order_theory.specs.Basis.{Basis, IsSoundBasis, IsWord, times, rank_at, pairs_at}
use Rattle.order_theory.specs.Errors.{weight, right_at, wrong_at}
use Rattle.order_theory.specs.Voting.{SameBelow}
use Rattle.vote_matrix.specs.Elimination.{Elimination, IsEliminationOf, rank_of}
use Rattle.vote_core.specs.Reading.{IsRead}

-- a matrix has no more pivots than the rank of any completion of what is settled
abbrev pub PivotLaw : Type 0
PivotLaw =
    (b : Basis) (e w : List ℕ) (k i : ℕ) (m : Elimination) → IsSoundBasis b → IsWord b.bits b.n e → IsWord b.bits b.n w → k < b.n →
    SameBelow (times b) b e w k → IsRead b w m (rank_at b k) i → ((S : ℕ → ℕ → ℕ) → IsEliminationOf S m → m.count ≤ rank_of m S m.n m.n) →
    m.count ≤ weight e

abbrev pub LineLaw : Type 0
LineLaw = (b : Basis) (e : List ℕ) (k : ℕ) → IsSoundBasis b → IsWord b.bits b.n e → k < b.n → pairs_at b k + wrong_at (times b) b e k ≤ right_at (times b) b e k + 2 * weight e
