use Rattle.std.proofs.Common.{◌≡◌, ◌+◌, ◌-◌, ◌*◌, ◌%◌, ◌^◌, arith}
use Rattle.std.proofs.lemmas.Nat.{one_shl}
use Rattle.ag_frame.proofs.Windows.{cut_is}
use Rattle.ag_frame.proofs.packed.cut.Goals as goal

pub returns : goal.returns
returns c =
    let parts : c.args.size ≡ c.args.from + (c.args.width + (c.args.size - c.args.from - c.args.width)) = omega arith in
    cut_is c.args.window c.args.size c.args.from c.args.width (c.args.size - c.args.from - c.args.width) (1 * 2 ^ c.args.width % 4294967296) parts (one_shl c.args.width 32 (omega arith))
