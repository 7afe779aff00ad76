use Rattle.agcode_top.proofs.WordLemmas.{params-has}
use Rattle.agcode_top.proofs.params.params.Goals as goal

pub returns-in-Ok-clause-leaves : goal.returns-in-Ok-clause-leaves
returns-in-Ok-clause-leaves g c = λ w reads tells input report.
    params-has w c.args.described.now reads tells input _ report c.in-Ok.text.items _ _ c.in-Ok.ensures c.deref.ensures.value c.answer.ensures.leaves
