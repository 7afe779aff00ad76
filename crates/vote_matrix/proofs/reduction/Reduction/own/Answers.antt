use Rattle.vote_matrix.specs.Slots.{slots}
use Rattle.vote_matrix.specs.Stored.{elimination_of, IsFree}
use Rattle.vote_matrix.proofs.Stages.{own_none}
use Rattle.vote_matrix.proofs.reduction.Reduction.own.Goals as goal

pub returns-clause-none : goal.returns-clause-none
returns-clause-none c =
    let a = c.args.self.now in
    own_none (elimination_of a) (slots a.n a.number.items) a.inverse.items c.requires.stored.state c.args.i c.requires.row c.in_ok-column.column c.number_of.result c.in_ok-column.ensures.same c.in_ok-column.ensures.low (IsFree a c.args.i) c.number_of.ensures
