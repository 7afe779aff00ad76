use Rattle.order_bound.proofs.Lines.{bad_title, no_head_line, bad_head, top_is}
use Rattle.order_bound.proofs.reader.top_of.Goals as goal

pub returns-in_default : goal.returns-in_default
returns-in_default c = bad_title c.args.text.now c.args.n c.requires c.in_default.ensures

pub returns-in_default-end_of_line : goal.returns-in_default-end_of_line
returns-in_default-end_of_line c = no_head_line c.args.text.now c.args.n c.requires c.in-Some.at c.in-Some.ensures c.in_default-end_of_line.ensures

pub returns-in_default-head_of : goal.returns-in_default-head_of
returns-in_default-head_of c = bad_head c.args.text.now c.args.n c.requires c.in-Some.at c.in-Some.ensures c.in-Some-end_of_line.end c.in-Some-end_of_line.ensures c.in_default-head_of.ensures

pub returns : goal.returns
returns c =
    top_is c.args.text.now c.args.n c.requires c.in-Some.at c.in-Some.ensures c.in-Some-end_of_line.end c.in-Some-end_of_line.ensures c.in-Some-head_of.head.checked c.in-Some-head_of.head.bound c.in-Some-head_of.ensures.0 c.in-Some-head_of.ensures.1
