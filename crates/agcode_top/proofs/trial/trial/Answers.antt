use Rattle.std.proofs.Common.{◌∙◌, ap₂, refl}
use Rattle.code_trial.specs.Trials.{trial_text_of}
use Rattle.agcode_top.proofs.StreamLemmas.{same-form}
use Rattle.agcode_top.proofs.WordLemmas.{trial-has}
use Rattle.agcode_top.proofs.trial.trial.Goals as goal

pub returns-in-Ok-clause-leaves : goal.returns-in-Ok-clause-leaves
returns-in-Ok-clause-leaves g c = λ reads tells input report.
    trial-has _ c.args.described.now reads tells input _ report c.in-Ok.text.items _ _
    (c.in-Ok.ensures ∙ ap₂ (λ F t. trial_text_of F t c.args.asked.now.seed c.args.asked.now.bytes)
    (same-form c.args.described.now c.code-code.result.now c.layout_of-layout.result _ c.code-code.ensures.plain refl
    (c.layout_of-layout.ensures.depth ∙ c.depth.ensures.depth) (c.layout_of-layout.ensures.packed ∙ c.is_packed.ensures))
    (c.radius-radius.ensures.value ∙ c.code-code.ensures.plain.radius_is))
    c.deref.ensures.value c.answer.ensures.leaves
