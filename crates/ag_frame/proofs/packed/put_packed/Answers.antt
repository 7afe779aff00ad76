use Rattle.std.proofs.Common.{ℕ, ◌+◌, ◌/◌, ◌%◌, ◌<◌, get_or, set, arith}
use Rattle.ag_frame.proofs.Windows.{one_window, two_window, one_written, two_written, with_symbol_window}
use Rattle.ag_frame.proofs.packed.put_packed.Goals as goal

pub returns-then-from-width-le8 : goal.returns-then-from-width-le8
returns-then-from-width-le8 c =
    let byte : ℕ = c.args.at / 8 in
    let from : ℕ = c.args.at % 8 in
    let v : ℕ = c.paste.result in
    with_symbol_window c.args.bytes.now (set c.args.bytes.now byte v) byte 8 c.args.at from c.args.width c.args.symbol
    (one_window c.args.bytes.now byte c.from.result (omega arith) c.from.ensures) (one_written c.args.bytes.now byte v (omega arith)) c.paste.ensures.bits (omega arith) (omega arith)

pub returns-else-from-width-le8 : goal.returns-else-from-width-le8
returns-else-from-width-le8 c =
    let byte : ℕ = c.args.at / 8 in
    let from : ℕ = c.args.at % 8 in
    let v : ℕ = c.paste-window.result in
    let low : get_or c.args.bytes.now (byte + 1) 0 < 256 = omega (arith, c.pair.ensures.low) in
    with_symbol_window c.args.bytes.now (set (set c.args.bytes.now byte (v / 256)) (byte + 1) (v % 256)) byte 16 c.args.at from c.args.width c.args.symbol
    (two_window c.args.bytes.now byte c.pair.result (omega arith) c.pair.ensures.value low) (two_written c.args.bytes.now byte v (omega arith)) c.paste-window.ensures.bits (omega arith) (omega arith)
