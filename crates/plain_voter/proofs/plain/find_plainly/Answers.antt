use Rattle.std.proofs.Common.{ℕ, ◌≤◌, ◌∙◌, List, sym, ap, subst, refl, arith}
use Rattle.order_theory.specs.Basis.{IsWord}
use Rattle.order_theory.specs.Codes.{low_bits}
use Rattle.order_theory.specs.Errors.{weight}
use Rattle.plain_voter.specs.Lines.{Recovers}
use Rattle.order_theory.proofs.Errors.{low_word}
use Rattle.plain_voter.proofs.Errors.{written_back, find_is}
use Rattle.plain_voter.proofs.plain.find_plainly.Goals as goal

pub vote_on_all-requires-clause-word : goal.vote_on_all-requires-clause-word
vote_on_all-requires-clause-word g c =
    let b = c.args.basis.now in
    subst (λ (xs : List ℕ). IsWord b.bits b.n xs) (sym (c.deref_mut.ensures.value ∙ c.in_ok-work.ensures ∙ ap (λ (m : ℕ). low_bits m c.args.got.now) c.bits.ensures.value)) (low_word b.bits b.n c.args.got.now c.requires.received)

pub returns : goal.returns
returns g c =
    let b = c.args.basis.now in
    let marks = c.args.checked.now in
    let y = low_bits b.bits c.args.got.now in
    let w = c.vote_on_all.new.work in
    let lines = c.in_ok-lines.lines.items in
    let found : Recovers b marks y w lines =
    subst (λ (xs : List ℕ). Recovers b marks xs w lines) (c.deref_mut.ensures.value ∙ c.in_ok-work.ensures ∙ ap (λ (m : ℕ). low_bits m c.args.got.now) c.bits.ensures.value) c.in_ok-lines.ensures.found in
    let yw : IsWord b.bits b.n y = low_word b.bits b.n c.args.got.now c.requires.received in
    let whole = written_back c.in_ok-work.work.len w c.in_ok-work.work.items (c.vote_on_all.auto.work ∙ c.deref_mut.ensures.len) in
    let light : weight w ≤ c.args.t = omega (arith, c.weight_of.ensures, ap weight (c.deref.ensures.value ∙ whole), c.if-weight_of-t.false) in
    find_is b marks c.args.t y w lines c.bits.ensures.sound yw found c.requires.bound _ whole refl light
