use Rattle.std.proofs.Common.{ap, sym, subst, ◌∙◌, arith, ◌≡◌, ℕ, List, length}
use Rattle.stored_form.specs.Frame.{IsFile}
use Rattle.code_trial.proofs.Drawn.{bytes_drawn, length-file_bytes}
use Rattle.code_trial.proofs.outcome_of.Goals as goal

pub image_of-requires-clause-short : goal.image_of-requires-clause-short
image_of-requires-clause-short g c κs within =
    let long : length c.deref.result.now ≡ c.args.bytes =
    ap (λ (xs : List ℕ). length xs) (c.deref.ensures.value ∙ c.in_ok-file.ensures.file) ∙ length-file_bytes c.args.bytes _ in
    omega (arith, c.requires.short)

pub damage_and_decode-requires-clause-file : goal.damage_and_decode-requires-clause-file
damage_and_decode-requires-clause-file g c κs within =
    subst (λ (xs : List ℕ). IsFile xs) (sym (c.deref-2.ensures.value ∙ c.in_ok-file.ensures.file)) (bytes_drawn c.args.bytes _)

pub damage_and_decode-requires-clause-short : goal.damage_and_decode-requires-clause-short
damage_and_decode-requires-clause-short g c κs within =
    let long : length c.deref-2.result.now ≡ c.args.bytes =
    ap (λ (xs : List ℕ). length xs) (c.deref-2.ensures.value ∙ c.in_ok-file.ensures.file) ∙ length-file_bytes c.args.bytes _ in
    omega (arith, c.requires.short)
