use Rattle.order_bound.proofs.Lines.{no_points, no_checked, no_bound, other_points, longer_head, head_reads}
use Rattle.order_bound.proofs.reader.head_of.Goals as goal

pub returns-in_err-points : goal.returns-in_err-points
returns-in_err-points c = rw c.from_residual.ensures (no_points c.args.line.now c.args.n c.requires c.in_err-points.ensures)

pub returns-in_err-checked : goal.returns-in_err-checked
returns-in_err-checked c =
    rw c.from_residual-in_err-checked.ensures
    (no_checked c.args.line.now c.args.n c.requires c.in_ok-points.points.value c.in_ok-points.points.end c.in_ok-points.ensures c.in_err-checked.ensures)

pub returns-in_err-bound : goal.returns-in_err-bound
returns-in_err-bound c =
    rw c.from_residual-in_err-bound.ensures
    (no_bound c.args.line.now c.args.n c.requires c.in_ok-points.points.value c.in_ok-points.points.end c.in_ok-points.ensures c.in_ok-checked.checked.value c.in_ok-checked.checked.end c.in_ok-checked.ensures c.in_err-bound.ensures)

pub returns-then-points-n : goal.returns-then-points-n
returns-then-points-n c = other_points c.args.line.now c.args.n c.requires c.in_ok-points.points.value c.in_ok-points.points.end c.in_ok-points.ensures c.if-points-n.true

pub returns-then-bound-line : goal.returns-then-bound-line
returns-then-bound-line c =
    longer_head c.args.line.now c.args.n c.requires c.in_ok-points.points.value c.in_ok-points.points.end c.in_ok-points.ensures c.in_ok-checked.checked.value c.in_ok-checked.checked.end c.in_ok-checked.ensures
    c.in_ok-bound.bound.value c.in_ok-bound.bound.end c.in_ok-bound.ensures c.if-bound-line.true

pub returns : goal.returns
returns c =
    head_reads c.args.line.now c.args.n c.requires c.in_ok-points.points.value c.in_ok-points.points.end c.in_ok-points.ensures c.in_ok-checked.checked.value c.in_ok-checked.checked.end c.in_ok-checked.ensures
    c.in_ok-bound.bound.value c.in_ok-bound.bound.end c.in_ok-bound.ensures c.if-points-n.false c.if-bound-line.false
