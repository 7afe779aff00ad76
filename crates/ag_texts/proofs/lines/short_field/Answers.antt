use Rattle.std.proofs.Common.{rules, arith, ◌≡◌, ◌++◌, ap, length, length-append}
use Rattle.std.specs.Fmt.{decimal}
use Rattle.ag_texts.proofs.Digits.{ten_digits}
use Rattle.ag_texts.proofs.lines.short_field.Goals as goal

pub returns-clause-len : goal.returns-clause-len
returns-clause-len c =
    let e : c.number.new.self ≡ c.word.new.self ++ decimal c.args.v = search rules in
    omega (arith, ap length e, length-append c.word.new.self (decimal c.args.v), ten_digits c.args.v (omega arith))
