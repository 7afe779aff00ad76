use Rattle.order_bound.proofs.Fields.{no_word, no_label, no_pairs, no_mark, front_is}
use Rattle.order_bound.proofs.reader.front_of.Goals as goal

pub returns-in_err-label : goal.returns-in_err-label
returns-in_err-label c =
    rw c.from_residual-in_err-label.ensures
    (λ label pairs mark dual small few. no_label c.args.line.now c.in_ok-at.at c.in_ok-at.ensures c.in_err-label.ensures label pairs mark dual small)

pub returns-in_err-pairs : goal.returns-in_err-pairs
returns-in_err-pairs c =
    rw c.from_residual-in_err-pairs.ensures
    (no_pairs c.args.line.now c.in_ok-at.at c.in_ok-at.ensures c.in_ok-label.label.value c.in_ok-label.label.end c.in_ok-label.ensures c.in_err-pairs.ensures)

pub returns-in_err-mark : goal.returns-in_err-mark
returns-in_err-mark c =
    rw c.from_residual-in_err-mark.ensures
    (no_mark c.args.line.now c.in_ok-at.at c.in_ok-at.ensures c.in_ok-label.label.value c.in_ok-label.label.end c.in_ok-label.ensures c.in_ok-pairs.pairs.value c.in_ok-pairs.pairs.end c.in_ok-pairs.ensures c.in_err-mark.ensures)

pub returns : goal.returns
returns c =
    front_is c.args.line.now c.in_ok-at.at c.in_ok-at.ensures c.in_ok-label.label.value c.in_ok-label.label.end c.in_ok-label.ensures c.in_ok-pairs.pairs.value c.in_ok-pairs.pairs.end c.in_ok-pairs.ensures c.in_ok-mark.mark c.in_ok-mark.end c.in_ok-mark.ensures

pub returns-in_err-at : goal.returns-in_err-at
returns-in_err-at c =
    rw c.from_residual.ensures
    (λ label pairs mark dual small few. no_word c.args.line.now c.in_err-at.ensures label pairs mark dual)
