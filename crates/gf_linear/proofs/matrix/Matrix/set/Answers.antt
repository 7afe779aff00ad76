use Rattle.std.proofs.Common.{arith, ◌<◌, ◌+◌, ◌*◌, length}
use Rattle.gf_linear.proofs.Views.{view-place, view-set}
use Rattle.gf_linear.proofs.matrix.Matrix.set.Goals as goal

pub index_mut-requires : goal.index_mut-requires
index_mut-requires c =
    let a = c.self.inside in
    let l : c.args.i * a.cols + c.args.j < length a.entries.items = view-place a.rows a.cols a.entries.items c.args.self.now c.self.view_is c.args.i c.args.j c.requires.row c.requires.column c.self.invariant.2 in
    omega (arith, a.entries.ok.0)

pub returns : goal.returns
returns c = let a = c.self.inside in view-set a.rows a.cols a.entries.items c.args.self.now c.self.view_is c.args.i c.args.j c.args.v c.requires.row c.requires.column
