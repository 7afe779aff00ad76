use Rattle.order_bound.proofs.OneLine.{one_line_law}
use Rattle.order_bound.proofs.refusal.tables_are_refused_at_one_line.Goals as goal

pub returns : goal.returns
returns c = one_line_law
