use Rattle.std.proofs.Common.{rules}
use Rattle.order_bound.proofs.Lines.{entry_added}
use Rattle.order_bound.proofs.reader.add_entry.Goals as goal

pub returns : goal.returns
returns c =
    entry_added c.args.size c.args.n c.args.line.now c.args.entries.now _ c.in-Some.front.label c.in-Some.front.pairs c.in-Some.front.mark c.in-Some.front.end c.in-Some.ensures
    (search rules) c.in_ok-push.ensures.items c.in_ok-push-2.ensures.items (search rules)
