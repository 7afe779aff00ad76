use Rattle.std.proofs.Common.{subst}
use Rattle.vote_matrix.specs.Slots.{slots}
use Rattle.vote_matrix.specs.Stored.{elimination_of}
use Rattle.vote_matrix.specs.Elimination.{IsSound}
use Rattle.vote_matrix.proofs.RankReadings.{state_sound}
use Rattle.vote_matrix.proofs.growing_rows.GrowingRows.reach.Goals as goal

pub returns-clause-sound : goal.returns-clause-sound
returns-clause-sound c =
    let a = c.self.inside.reduction in
    subst IsSound c.self.view_is (state_sound (elimination_of a) (slots a.n a.number.items) a.inverse.items c.self.invariant.state)
