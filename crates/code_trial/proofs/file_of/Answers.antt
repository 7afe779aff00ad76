use Rattle.std.proofs.Common.{ap, sym, ◌∙◌, ◌≡◌, ℕ, List, length}
use Rattle.std.proofs.lemmas.List.{with_items_is}
use Rattle.ag_trial.specs.Words.{file_bytes, after_bytes}
use Rattle.code_trial.proofs.file_of.Goals as goal

pub returns-clause-file : goal.returns-clause-file
returns-clause-file c =
    let count : length c.deref_mut.result.now ≡ c.args.bytes = ap (λ (w : List ℕ). length w) c.deref_mut.ensures.value ∙ sym c.in_ok-file.file.ok.0 ∙ c.in_ok-file.ensures.len in
    let long : length c.fill_bytes.new.bytes ≡ c.in_ok-file.file.len =
    c.fill_bytes.auto.bytes ∙ ap (λ (w : List ℕ). length w) c.deref_mut.ensures.value ∙ sym c.in_ok-file.file.ok.0 in
    with_items_is c.in_ok-file.file c.fill_bytes.new.bytes long ∙ c.fill_bytes.ensures.bytes ∙ ap (λ (n : ℕ). file_bytes n c.args.trial.now) count

pub returns-clause-rest : goal.returns-clause-rest
returns-clause-rest c =
    let count : length c.deref_mut.result.now ≡ c.args.bytes = ap (λ (w : List ℕ). length w) c.deref_mut.ensures.value ∙ sym c.in_ok-file.file.ok.0 ∙ c.in_ok-file.ensures.len in
    λ _. c.fill_bytes.ensures.rest ∙ ap (λ (n : ℕ). after_bytes n c.args.trial.now) count
