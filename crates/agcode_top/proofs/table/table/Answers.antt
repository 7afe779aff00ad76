use Rattle.agcode_top.proofs.WordLemmas.{table-has}
use Rattle.agcode_top.proofs.table.table.Goals as goal

pub returns-in-Ok-clause-leaves : goal.returns-in-Ok-clause-leaves
returns-in-Ok-clause-leaves g c = λ w reads tells input report.
    table-has w c.args.described.now reads tells input _ report c.in-Ok.text.items _ _
    ((c.code-code.ensures.plain.table_is c.in-Ok.text.items).0 (rw (← c.basis.ensures.value, ← c.checked.ensures.value) c.in-Ok.ensures)) c.deref.ensures.value c.answer.ensures.leaves
