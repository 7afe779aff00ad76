use Rattle.std.proofs.Common.{◌+◌, ◌-◌, ◌*◌, ◌%◌, ◌^◌, refl, arith}
use Rattle.std.proofs.lemmas.Nat.{one_shl}
use Rattle.ag_frame.proofs.PendingBits.{symbol_waits, symbol_written}
use Rattle.ag_frame.proofs.pending.Pending.put.Goals as goal

pub returns-then-have-lt8-clause-bits : goal.returns-then-have-lt8-clause-bits
returns-then-have-lt8-clause-bits c =
    let s = c.args.self.now in
    rw c.from.ensures (symbol_waits c.args.bytes.now s.place s.have c.args.width s.bits c.args.symbol (1 * 2 ^ c.args.width % 4294967296) (s.have + c.args.width) refl (one_shl c.args.width 32 (omega arith)) c.if-have-lt8.true)

pub returns-else-have-lt8-clause-bits : goal.returns-else-have-lt8-clause-bits
returns-else-have-lt8-clause-bits c =
    let s = c.args.self.now in
    rw c.from.ensures (symbol_written c.args.bytes.now s.place s.have c.args.width s.bits c.args.symbol (1 * 2 ^ c.args.width % 4294967296) (s.have + c.args.width) refl (one_shl c.args.width 32 (omega arith)) (s.have + c.args.width - 8) (omega arith) (omega arith) (omega arith))
