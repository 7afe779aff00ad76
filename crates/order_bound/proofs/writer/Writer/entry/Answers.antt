use Rattle.std.proofs.Common.{◌∙◌}
use Rattle.order_bound.specs.TableText.{entry_of}
use Rattle.std.proofs.lemmas.Result.{on_ok_weaker}
use Rattle.order_bound.proofs.Pieces.{entry_steps}
use Rattle.order_bound.proofs.writer.Writer.entry.Goals as goal

pub returns : goal.returns
returns g c =
    on_ok_weaker c.word-2.result
    (entry_steps c.args.self.now.text.items c.word.new.self.text.items c.number.new.self.text.items c.number-2.new.self.text.items c.mark.new.self.text.items c.symbols.new.self.text.items _ (entry_of c.args.basis.now c.args.checked.now c.args.k) _ _ _ _
    c.in_ok-word.ensures c.in_ok-number.ensures c.in_ok-number-2.ensures c.in_ok-mark.ensures c.in_ok-symbols.ensures
    (c.from.ensures ∙ c.label.ensures.value) (c.from-2.ensures ∙ c.pairs.ensures.value) c.holds.ensures c.dual.ensures.value)
    c.word-2.ensures
