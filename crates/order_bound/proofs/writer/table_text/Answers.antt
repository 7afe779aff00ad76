use Rattle.std.proofs.Common.{◌++◌, ◌∙◌, ap, List, ℕ}
use Rattle.order_bound.specs.TableText.{entry_of, entry_line}
use Rattle.order_bound.proofs.Pieces.{entries_more}
use Rattle.order_bound.proofs.writer.table_text.Goals as goal

pub loop-k-preserved : goal.loop-k-preserved
loop-k-preserved g c =
    c.in_ok-entry.ensures ∙ ap (λ (t : List ℕ). t ++ entry_line (entry_of c.args.basis.now c.args.checked.now c.loop-k.k)) c.loop-k.invariant
    ∙ entries_more _ (entry_of c.args.basis.now c.args.checked.now) c.loop-k.k
