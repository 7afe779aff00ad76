use Rattle.std.proofs.lemmas.Result.{on_ok_weaker}
use Rattle.order_bound.proofs.Pieces.{head_steps}
use Rattle.order_bound.proofs.writer.Writer.head.Goals as goal

pub returns : goal.returns
returns c =
    on_ok_weaker c.word-4.result
    (head_steps c.args.self.now.text.items c.word.new.self.text.items c.number.new.self.text.items c.word-2.new.self.text.items c.number-2.new.self.text.items c.word-3.new.self.text.items c.number-3.new.self.text.items _ c.args.n c.args.checked c.args.least _ _ _
    c.in_ok-word.ensures c.in_ok-number.ensures c.in_ok-word-2.ensures c.in_ok-number-2.ensures c.in_ok-word-3.ensures c.in_ok-number-3.ensures c.from.ensures c.from-2.ensures c.from-3.ensures)
    c.word-4.ensures
