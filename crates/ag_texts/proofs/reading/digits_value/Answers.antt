use Rattle.std.proofs.Common.{arith, sym, ◌∙◌}
use Rattle.ag_texts.proofs.Numbers.{reading_step, reading_fits, reading_ends, reading_refused}
use Rattle.ag_texts.proofs.reading.digits_value.Goals as goal

pub returns-then-not-is_ascii_digit : goal.returns-then-not-is_ascii_digit
returns-then-not-is_ascii_digit c =
    reading_refused c.loop-d.d-index c.args.digits.now (omega arith) (sym c.is_ascii_digit.ensures.value ∙ c.if-not-is_ascii_digit.true)

pub overflow_mul-value : goal.overflow_mul-value
overflow_mul-value c =
    omega (arith, reading_fits c.loop-d.value c.loop-d.d-index c.args.digits.now (omega arith) c.requires c.loop-d.invariant (sym c.is_ascii_digit.ensures.value ∙ c.if-not-is_ascii_digit.false))

pub overflow_add-value : goal.overflow_add-value
overflow_add-value c =
    omega (arith, c.from.ensures, reading_fits c.loop-d.value c.loop-d.d-index c.args.digits.now (omega arith) c.requires c.loop-d.invariant (sym c.is_ascii_digit.ensures.value ∙ c.if-not-is_ascii_digit.false))

pub loop-d-preserved : goal.loop-d-preserved
loop-d-preserved c =
    let next = reading_step c.loop-d.value c.loop-d.d-index c.args.digits.now (omega arith) c.loop-d.invariant (sym c.is_ascii_digit.ensures.value ∙ c.if-not-is_ascii_digit.false) in
    rw c.from.ensures next

pub returns : goal.returns
returns c = reading_ends c.loop-d.value c.loop-d.d-index c.args.digits.now (omega arith) c.loop-d.invariant
