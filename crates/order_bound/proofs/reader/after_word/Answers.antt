use Rattle.std.proofs.Common.{◌∙◌, sym, ap, List, ℕ}
use Rattle.std.specs.Prelude.{nat_eq}
use Rattle.std.specs.List.{starts_with}
use Rattle.std.proofs.lemmas.List.{take_rest}
use Rattle.order_bound.proofs.Fields.{word_stands, word_absent}
use Rattle.order_bound.proofs.reader.after_word.Goals as goal

pub returns-then-starts_with : goal.returns-then-starts_with
returns-then-starts_with c = word_stands c.args.text.now c.args.word.now c.args.at c.requires (ap (λ (z : List ℕ). starts_with nat_eq z c.args.word.now) (sym (take_rest c.args.text.now c.args.at)) ∙ sym c.starts_with.ensures.value ∙ c.if-starts_with.true)

pub returns-else-starts_with : goal.returns-else-starts_with
returns-else-starts_with c = word_absent c.args.text.now c.args.word.now c.args.at (ap (λ (z : List ℕ). starts_with nat_eq z c.args.word.now) (sym (take_rest c.args.text.now c.args.at)) ∙ sym c.starts_with.ensures.value ∙ c.if-starts_with.false)
