use Rattle.order_bound.proofs.Lines.{line_end_is}
use Rattle.order_bound.proofs.reader.end_of_line.Goals as goal

pub returns : goal.returns
returns c = line_end_is c.args.text.now c.args.at c.requires c.line_end.result c.line_end.ensures
