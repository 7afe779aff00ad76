use Rattle.std.proofs.Common.{◌≡◌, ℕ, ◌<◌, List, length, slice_index, sym, ◌∙◌, ap, subst}
use Rattle.std.proofs.lemmas.List.{get_or_default}
use Rattle.block_theory.specs.Checks.{ParityChecks}
use Rattle.block_code.proofs.coded.CodeBlockCode.message.Goals as goal

pub take_places-requires-clause-within : goal.take_places-requires-clause-within
take_places-requires-clause-within g c i l =
    let places : List ℕ = c.places.result.now in
    let p : ℕ = slice_index places i in
    let n : c.parity.result.now.n ≡ length c.args.word.now = ap (λ (v : ParityChecks). v.n) c.parity.ensures ∙ sym c.requires.word_long in
    subst (λ (k : ℕ). p < k) n ((c.places.ensures.exactly p).0 (i, l, get_or_default places i p 0 l)).position
