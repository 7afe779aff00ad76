use Rattle.gf_linear.proofs.Views.{view-rows, view-sound}
use Rattle.gf_linear.proofs.matrix.Matrix.rows.Goals as goal

pub returns-clause-rows : goal.returns-clause-rows
returns-clause-rows c = let a = c.self.inside in view-rows a.rows a.cols a.entries.items c.args.self.now c.self.view_is

pub returns-clause-sound : goal.returns-clause-sound
returns-clause-sound c = let a = c.self.inside in view-sound a.rows a.cols a.entries.items c.args.self.now c.self.view_is c.self.invariant.0 c.self.invariant.1 c.self.invariant.2
