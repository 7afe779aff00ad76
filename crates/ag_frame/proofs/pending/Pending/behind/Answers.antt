use Rattle.std.proofs.Common.{◌/◌, ◌%◌, arith}
use Rattle.ag_frame.proofs.PendingBits.{pending_start}
use Rattle.ag_frame.proofs.pending.Pending.behind.Goals as goal

pub returns-clause-bits : goal.returns-clause-bits
returns-clause-bits c =
    pending_start c.args.bytes.now c.args.at (c.args.at / 8) (c.args.at % 8) c.from.result (omega (arith, c.requires)) (omega arith) (omega arith) c.from.ensures
