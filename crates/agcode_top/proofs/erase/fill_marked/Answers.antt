use Rattle.std.proofs.Common.{◌≡◌, ◌∙◌, ap, sym, refl, ℕ, length, take, drop, List, [], Ok}
use Rattle.std.proofs.lemmas.List.{with_items_is}
use Rattle.agcode_top.specs.Filled.{fills, fills_nothing}
use Rattle.agcode_top.proofs.EraseLemmas.{erase-mark, erase-none, erase-several, erase-filled}
use Rattle.agcode_top.proofs.erase.fill_marked.Goals as goal

pub returns-in-Some-clause-leaves : goal.returns-in-Some-clause-leaves
returns-in-Some-clause-leaves g c =
    let n : c.n-n.result ≡ length c.args.described.now.points = c.n-n.ensures.value ∙ c.code-code.ensures.plain.n_is in
    fills_nothing (erase-mark c.args.described.now c.code-code.result.now c.code-code.ensures.plain c.args.got.now c.split_at.result.0.now c.split_at.result.1.now [] _ c.requires
    (c.split_at.ensures.front ∙ ap (λ (k : ℕ). take k c.args.got.now) n) (c.split_at.ensures.back ∙ ap (λ (k : ℕ). drop k c.args.got.now) n) refl
    c.in-Some.place c.in-Some.ensures) refl refl

pub returns-in-Ok-NoCodeword-clause-leaves : goal.returns-in-Ok-NoCodeword-clause-leaves
returns-in-Ok-NoCodeword-clause-leaves g c =
    let n : c.n-n.result ≡ length c.args.described.now.points = c.n-n.ensures.value ∙ c.code-code.ensures.plain.n_is in
    fills_nothing (erase-none c.args.described.now c.code-code.result.now c.code-code.ensures.plain c.args.got.now c.split_at.result.0.now c.split_at.result.1.now c.deref_mut.result.now c.deref.result.now c.requires
    (c.split_at.ensures.front ∙ ap (λ (k : ℕ). take k c.args.got.now) n) (c.split_at.ensures.back ∙ ap (λ (k : ℕ). drop k c.args.got.now) n) (c.deref.ensures.value ∙ c.in-Ok.ensures)
    _ c.in_default.ensures (rw c.in-Ok-NoCodeword.field-0-is at c.in-Ok-NoCodeword.ensures.answer)) refl refl

pub returns-in-Ok-Ambiguous-clause-leaves : goal.returns-in-Ok-Ambiguous-clause-leaves
returns-in-Ok-Ambiguous-clause-leaves g c =
    let n : c.n-n.result ≡ length c.args.described.now.points = c.n-n.ensures.value ∙ c.code-code.ensures.plain.n_is in
    fills_nothing (erase-several c.args.described.now c.code-code.result.now c.code-code.ensures.plain c.args.got.now c.split_at.result.0.now c.split_at.result.1.now c.deref_mut.result.now c.deref.result.now c.requires
    (c.split_at.ensures.front ∙ ap (λ (k : ℕ). take k c.args.got.now) n) (c.split_at.ensures.back ∙ ap (λ (k : ℕ). drop k c.args.got.now) n) (c.deref.ensures.value ∙ c.in-Ok.ensures)
    c.in-Ok-Ambiguous.place _ c.in_default.ensures (rw c.in-Ok-Ambiguous.field-0-is at c.in-Ok-Ambiguous.ensures.answer)
    (λ few. c.in-Ok-Ambiguous.ensures.few_lost few c.in-Ok-Ambiguous.place (ap Ok c.in-Ok-Ambiguous.field-0-is))) refl refl

pub returns-in-Ok-Filled-clause-leaves : goal.returns-in-Ok-Filled-clause-leaves
returns-in-Ok-Filled-clause-leaves g c =
    let n : c.n-n.result ≡ length c.args.described.now.points = c.n-n.ensures.value ∙ c.code-code.ensures.plain.n_is in
    let long : length c.fill_lost.new.out ≡ c.in-Ok-vec.filled.len = c.fill_lost.auto.out ∙ ap (λ (v : List ℕ). length v) c.deref_mut.ensures.value ∙ sym c.in-Ok-vec.filled.ok.0 in
    fills _ _ (erase-filled c.args.described.now c.code-code.result.now c.code-code.ensures.plain c.args.got.now c.split_at.result.0.now c.split_at.result.1.now c.deref_mut.result.now c.deref.result.now c.requires
    (c.split_at.ensures.front ∙ ap (λ (k : ℕ). take k c.args.got.now) n) (c.split_at.ensures.back ∙ ap (λ (k : ℕ). drop k c.args.got.now) n) (c.deref.ensures.value ∙ c.in-Ok.ensures)
    c.in-Ok-Filled.field-0-0 c.fill_lost.new.out c.deref-in-Ok-Filled-2.result.now c.deref-in-Ok-Filled.result.now
    (c.deref-in-Ok-Filled-2.ensures.value ∙ with_items_is c.in-Ok-vec.filled c.fill_lost.new.out long) (c.deref-in-Ok-Filled.ensures.value ∙ sym c.deref.ensures.value)
    c.in_default.ensures (rw c.in-Ok-Filled.field-0-is at c.in-Ok-Filled.ensures.answer)) c.write_filled.ensures.leaves
