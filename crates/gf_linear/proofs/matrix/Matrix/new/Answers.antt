use Rattle.std.proofs.Common.{rules}
use Rattle.gf_linear.proofs.Views.{view-new}
use Rattle.gf_linear.proofs.matrix.Matrix.new.Goals as goal

pub returns : goal.returns
returns c = view-new c.args.rows c.args.cols c.in_ok-vec.field-0.items (c.in_ok-vec.ensures.items_if_clones_equal (search rules))
