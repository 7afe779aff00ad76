use Rattle.std.proofs.Common.{ℕ, ◌≡◌, ◌<◌, ◌∙◌, arith, ap, sym, subst, length, List}
use Rattle.std.specs.Prelude.{Option, All, IfSome, slice_index}
use Rattle.vote_matrix.specs.Slots.{slots, IsSlot}
use Rattle.vote_matrix.proofs.Slots.{length-slots}
use Rattle.vote_matrix.proofs.reduction.Reduction.number_of.Goals as goal

pub number_at-requires-clause-column : goal.number_at-requires-clause-column
number_at-requires-clause-column c =
    let a = c.args.self.now in
    let long : length c.deref.result.now ≡ a.n = ap (λ (xs : List (Option ℕ)). length xs) c.deref.ensures.value ∙ sym (length-slots a.n a.number.items) ∙ c.requires.stored.state.numbers_fit in
    omega (arith, c.requires.column)

pub number_at-requires-clause-numbers : goal.number_at-requires-clause-numbers
number_at-requires-clause-numbers c =
    let a = c.args.self.now in
    let long : length c.deref.result.now ≡ a.n = ap (λ (xs : List (Option ℕ)). length xs) c.deref.ensures.value ∙ sym (length-slots a.n a.number.items) ∙ c.requires.stored.state.numbers_fit in
    subst (λ (m : ℕ). All (λ o. IfSome o (λ x. x < m)) c.deref.result.now) (sym long) (subst (λ (xs : List (Option ℕ)). All (λ o. IfSome o (λ x. x < a.n)) xs) (sym c.deref.ensures.value) c.requires.stored.numbers_low)

pub returns : goal.returns
returns c =
    let a = c.args.self.now in
    let long : length c.deref.result.now ≡ a.n = ap (λ (xs : List (Option ℕ)). length xs) c.deref.ensures.value ∙ sym (length-slots a.n a.number.items) ∙ c.requires.stored.state.numbers_fit in
    subst (λ (xs : List (Option ℕ)). IsSlot a.n (slice_index (slots a.n xs) c.args.j) c.number_at.result) c.deref.ensures.value
    (subst (λ (m : ℕ). IsSlot m (slice_index (slots m c.deref.result.now) c.args.j) c.number_at.result) long c.number_at.ensures)
