use Rattle.std.proofs.Common.{◌≡◌, ℕ, ◌≤◌, subst}
use Rattle.vote_matrix.specs.Slots.{slots}
use Rattle.vote_matrix.specs.Stored.{elimination_of}
use Rattle.vote_matrix.specs.Elimination.{Elimination, IsEliminationOf, IsSound, count_pivots, rank_of}
use Rattle.vote_matrix.proofs.RankReadings.{count_is, count_rank, state_sound}
use Rattle.vote_matrix.proofs.growing_rows.GrowingRows.pivots.Goals as goal

pub returns-clause-pivots : goal.returns-clause-pivots
returns-clause-pivots c =
    let a = c.self.inside.reduction in
    subst (λ (v : Elimination). (S : ℕ → ℕ → ℕ) → IsEliminationOf S v → a.count ≡ count_pivots v S) c.self.view_is
    (λ S e. count_is (elimination_of a) (slots a.n a.number.items) a.inverse.items c.self.invariant.state S e)

pub returns-clause-rank : goal.returns-clause-rank
returns-clause-rank c =
    let a = c.self.inside.reduction in
    subst (λ (v : Elimination). (S : ℕ → ℕ → ℕ) → IsEliminationOf S v → a.count ≤ rank_of v S v.n v.n) c.self.view_is
    (λ S e. count_rank (elimination_of a) (slots a.n a.number.items) a.inverse.items c.self.invariant.state S e)

pub returns-clause-sound : goal.returns-clause-sound
returns-clause-sound c =
    let a = c.self.inside.reduction in
    subst IsSound c.self.view_is (state_sound (elimination_of a) (slots a.n a.number.items) a.inverse.items c.self.invariant.state)
