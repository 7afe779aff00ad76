use Rattle.std.proofs.Common.{rules, arith}
use Rattle.order_bound.proofs.Lines.{entry_missing, entry_bad, entry_read, text_longer}
use Rattle.order_bound.proofs.reader.read_table.Goals as goal

pub returns-in_default : goal.returns-in_default
returns-in_default c =
    entry_missing c.args.size c.args.n c.requires.size c.args.text.now c.in_ok-top.top.checked c.in_ok-top.top.bound c.loop-k.at c.loop-k.k c.loop-k.entries c.loop-k.invariant (omega arith) c.in_default.ensures

pub returns-then-not-branch : goal.returns-then-not-branch
returns-then-not-branch c =
    entry_bad c.args.size c.args.n c.requires.size c.args.text.now c.in_ok-top.top.checked c.in_ok-top.top.bound c.loop-k.at c.loop-k.k c.loop-k.entries c.loop-k.invariant c.in-Some.end c.in-Some.ensures (omega arith) (search rules)

pub loop-k-preserved : goal.loop-k-preserved
loop-k-preserved c =
    entry_read c.args.size c.args.n c.requires.size c.args.text.now c.in_ok-top.top.checked c.in_ok-top.top.bound c.loop-k.at c.loop-k.k c.loop-k.entries c.loop-k.invariant c.in-Some.end c.in-Some.ensures _ (search rules)

pub returns-then-at-text : goal.returns-then-at-text
returns-then-at-text c =
    text_longer c.args.size c.args.n c.requires.size c.args.text.now c.in_ok-top.top.checked c.in_ok-top.top.bound c.loop-k.at c.loop-k.k c.loop-k.entries c.loop-k.invariant (omega arith) c.if-at-text.true
