use Rattle.std.proofs.Common.{◌<◌, ◌+◌, ◌≤◌, arith}
use Rattle.std.proofs.Math.Facts.{Fits-of_lt}
use Rattle.vote_core.proofs.Few.{radius_small}
use Rattle.vote_core.proofs.progress.new_progress.Goals as goal

pub overflow_add-t : goal.overflow_add-t
overflow_add-t g c =
    let few : c.args.t + 1 ≤ 1024 = radius_small c.args.basis.now c.args.checked.now c.args.t c.n-n.ensures.sound c.requires.some_free c.requires.radius in
    let small : c.args.t + 1 < 4294967296 = omega arith in
    Fits-of_lt small

pub new-requires-clause-most : goal.new-requires-clause-most
new-requires-clause-most g c = radius_small c.args.basis.now c.args.checked.now c.args.t c.n-n.ensures.sound c.requires.some_free c.requires.radius
