use Rattle.std.proofs.Common.{ℕ, ◌+◌, ◌/◌, ◌%◌, ◌<◌, get_or, sym, ◌∙◌, arith}
use Rattle.ag_frame.proofs.Windows.{one_window, two_window, symbol_in_window}
use Rattle.ag_frame.proofs.packed.packed_at.Goals as goal

pub returns-then-from-width-le8 : goal.returns-then-from-width-le8
returns-then-from-width-le8 c =
    let byte : ℕ = c.args.at / 8 in
    let from : ℕ = c.args.at % 8 in
    c.cut.ensures
    ∙ sym (symbol_in_window c.args.bytes.now byte 8 c.args.at from c.args.width (one_window c.args.bytes.now byte c.from.result (omega arith) c.from.ensures) (omega arith) (omega arith))

pub returns-else-from-width-le8 : goal.returns-else-from-width-le8
returns-else-from-width-le8 c =
    let byte : ℕ = c.args.at / 8 in
    let from : ℕ = c.args.at % 8 in
    let low : get_or c.args.bytes.now (byte + 1) 0 < 256 = omega (arith, c.pair.ensures.low) in
    c.cut-else-from-width-le8.ensures
    ∙ sym (symbol_in_window c.args.bytes.now byte 16 c.args.at from c.args.width (two_window c.args.bytes.now byte c.pair.result (omega arith) c.pair.ensures.value low) (omega arith) (omega arith))
