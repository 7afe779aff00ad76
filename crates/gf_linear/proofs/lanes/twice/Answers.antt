use Rattle.gf_linear.proofs.Wides.{twice_is}
use Rattle.gf_linear.proofs.lanes.twice.Goals as goal

pub returns : goal.returns
returns c = twice_is c.args.table.now c.requires
