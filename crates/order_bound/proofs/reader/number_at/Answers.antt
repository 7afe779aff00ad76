use Rattle.std.proofs.Common.{sym}
use Rattle.order_bound.proofs.Fields.{number_stands, number_absent}
use Rattle.order_bound.proofs.reader.number_at.Goals as goal

pub returns-in_err-value : goal.returns-in_err-value
returns-in_err-value c =
    rw c.from_residual-in_err-value.ensures
    (number_absent c.args.line.now c.args.at c.in_ok-start.start c.field_end-end.result c.in_ok-start.ensures c.field_end-end.ensures.first (sym c.in_err-value.ensures))

pub returns : goal.returns
returns c = number_stands c.args.line.now c.args.at c.in_ok-start.start c.field_end-end.result c.in_ok-start.ensures c.field_end-end.ensures.first c.in_ok-value.value c.field_end-end.ensures.within (sym c.in_ok-value.ensures)
