use Rattle.order_bound.proofs.Lines.{match_weaker, named_absent, named_stands}
use Rattle.order_bound.proofs.reader.named_number.Goals as goal

pub returns : goal.returns
returns c =
    match_weaker c.number_at.result _ _ _ _ (named_absent c.args.line.now c.args.name.now c.args.at c.in_ok-start.start c.in_ok-start.ensures)
    (λ x. named_stands c.args.line.now c.args.name.now c.args.at c.in_ok-start.start c.in_ok-start.ensures x.value x.end) c.number_at.ensures
