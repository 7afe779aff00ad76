use Rattle.std.proofs.Common.{◌∙◌, ap, ℕ, List}
use Rattle.code_texts.specs.Texts.{filled_text_of}
use Rattle.agcode_top.proofs.EraseLemmas.{filled-done, filled-untold}
use Rattle.agcode_top.proofs.erase.write_filled.Goals as goal

pub returns-in-Ok-put-2-clause-leaves : goal.returns-in-Ok-put-2-clause-leaves
returns-in-Ok-put-2-clause-leaves g c =
    filled-done _ _ _ _ _ c.in-Ok-put.ensures.written c.in-Ok-put-2.ensures.written
    (c.deref-2.ensures.value ∙ c.in-Ok-filled_text.ensures ∙ ap (λ (ps : List ℕ). filled_text_of ps c.args.word.now) (c.deref.ensures.value ∙ c.in-Ok.ensures.positions))

pub returns-clause-leaves : goal.returns-clause-leaves
returns-clause-leaves g c =
    filled-untold _ _ _ _ _ c.in-Ok-put.ensures.written c.in-Err-put.ensures.written
    (c.deref-2.ensures.value ∙ c.in-Ok-filled_text.ensures ∙ ap (λ (ps : List ℕ). filled_text_of ps c.args.word.now) (c.deref.ensures.value ∙ c.in-Ok.ensures.positions))
