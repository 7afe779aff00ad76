use Rattle.std.proofs.Common.{◌≡◌, ◌-◌, ◌≤◌, length, take, arith}
use Rattle.std.specs.Prelude.{slice_index}
use Rattle.std.proofs.lemmas.List.{length-take-le}
use Rattle.vote_core.proofs.Settled.{above_width}
use Rattle.vote_core.proofs.rows.settle_row.Goals as goal

pub settle_entries-requires-clause-above : goal.settle_entries-requires-clause-above
settle_entries-requires-clause-above g c = λ p lp.
    let inside : c.width_of-to.result ≤ c.args.basis.now.n = c.width_of-to.ensures.inside in
    let long : length (take (c.width_of-to.result - c.reach-from.result) c.args.row.now) ≡ c.width_of-to.result - c.reach-from.result =
    length-take-le (c.width_of-to.result - c.reach-from.result) c.args.row.now (omega (arith, c.requires.long)) in
    let far : c.width_of-to.result ≤ slice_index c.args.matrix.now.known p =
    above_width c.args.basis.now c.args.matrix.now c.args.limit c.args.i c.width_of-to.result p c.n.ensures.sound c.requires.limit c.requires.settled c.requires.row c.width_of-to.ensures lp in
    omega (arith, c.if-from-to.true)
