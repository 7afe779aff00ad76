use Rattle.std.proofs.Common.{◌∙◌, ap, codes, ℕ}
use Rattle.ag_texts.specs.Lines.{number_line_of}
use Rattle.agcode_top.proofs.WordLemmas.{check-accepts, check-refuses, check-long}
use Rattle.agcode_top.proofs.check.check.Goals as goal

pub returns-in-Ok-Accepted-clause-leaves : goal.returns-in-Ok-Accepted-clause-leaves
returns-in-Ok-Accepted-clause-leaves g c = λ w tells report.
    check-accepts w c.args.described.now _ c.in-Ok.text.items _ c.in-Ok.ensures.all c.deref.ensures.value c.in-Ok.ensures.within c.in-Ok.ensures.ended c.in-Ok.ensures.well
    _ tells report _ c.in-Ok-Accepted.bound _
    (rw c.in-Ok-Accepted.field-0-is at c.in-Ok-Accepted.ensures)
    (c.bytes.ensures.written ∙ c.number_line.ensures ∙ ap (λ (v : ℕ). number_line_of (codes "accepted bound") v) c.from.ensures)
    c.answer.ensures.leaves

pub returns-in-Ok-Refused-clause-leaves : goal.returns-in-Ok-Refused-clause-leaves
returns-in-Ok-Refused-clause-leaves g c = λ w tells report.
    check-refuses w c.args.described.now _ c.in-Ok.text.items _ c.in-Ok.ensures.all c.deref.ensures.value c.in-Ok.ensures.within c.in-Ok.ensures.ended c.in-Ok.ensures.well
    _ tells _ report c.in-Ok-Refused.line
    (rw c.in-Ok-Refused.field-0-is at c.in-Ok-Refused.ensures)

pub returns-in-Err-TooLong-clause-leaves : goal.returns-in-Err-TooLong-clause-leaves
returns-in-Err-TooLong-clause-leaves g c = λ w tells report.
    rw c.in-Err-TooLong.taken-is
    (check-long w c.args.described.now _ _ tells _ report c.in-Err-TooLong.taken (rw c.in-Err-TooLong.field-0-is at c.in-Err-TooLong.ensures.fault))
