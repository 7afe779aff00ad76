use Rattle.std.proofs.Common.{◌*◌}
use Rattle.code_design.proofs.Lasts.{Lasts}
use Rattle.code_design.proofs.members.stop.Given as goal

abbrev pub invariant-loop-k : goal.invariant-loop-k
invariant-loop-k g l = Lasts l.basis l.k (2 * l.want) l.last
