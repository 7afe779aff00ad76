use Rattle.vote_matrix.specs.Slots.{slots}
use Rattle.vote_matrix.specs.Stored.{elimination_of}
use Rattle.vote_matrix.proofs.Stages.{all_rows}
use Rattle.vote_matrix.proofs.reduction.Reduction.settle_new.Goals as goal

pub returns-in-Some-clause-eliminated : goal.returns-in-Some-clause-eliminated
returns-in-Some-clause-eliminated g c = λ S e agree. c.note_pivot.ensures.eliminated S (c.reduce_free.ensures.all_but S e agree)

pub returns-in_default-clause-eliminated : goal.returns-in_default-clause-eliminated
returns-in_default-clause-eliminated g c =
    λ S e agree.
    let b = c.reduce_free.new.self in
    all_rows (elimination_of b) (slots b.n b.number.items) b.inverse.items c.reduce_free.ensures.stored.state S c.args.i (c.reduce_free.ensures.all_but S e agree) c.in_default.ensures.left.zeros
