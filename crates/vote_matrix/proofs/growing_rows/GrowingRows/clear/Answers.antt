use Rattle.std.proofs.Common.{ℕ, ◌≡◌, rules, ap, ◌∙◌, sym, subst, refl}
use Rattle.std.specs.Prelude.{replicate, None}
use Rattle.vote_matrix.specs.Slots.{slots}
use Rattle.vote_matrix.specs.Stored.{elimination_of}
use Rattle.vote_matrix.specs.Elimination.{Elimination, IsEmpty}
use Rattle.vote_matrix.proofs.Slots.{slots_none, lows_none, length-slots}
use Rattle.vote_matrix.proofs.Empty.{state_empty, is_empty}
use Rattle.vote_matrix.proofs.growing_rows.GrowingRows.clear.Goals as goal

pub invariant_of-self : goal.invariant_of-self
invariant_of-self c =
    let a = c.self.inside.reduction in
    let h = c.self.invariant.state in
    let pivot : c.fill-2.new.self.items ≡ replicate a.n None =
    c.fill-2.ensures.items (search rules) ∙ ap (λ (m : ℕ). replicate m None) (a.pivot.ok.0 ∙ sym (length-slots a.n a.pivot.items) ∙ h.pivots_fit) in
    let number : c.fill-3.new.self.items ≡ replicate a.n None =
    c.fill-3.ensures.items (search rules) ∙ ap (λ (m : ℕ). replicate m None) (a.number.ok.0 ∙ sym (length-slots a.n a.number.items) ∙ h.numbers_fit) in
    record {
      state =
          state_empty (record (elimination_of a) { count = 0; known = c.fill.new.self.items; pivots = slots a.n c.fill-2.new.self.items; spans = c.fill-4.new.self.items }) (slots a.n c.fill-3.new.self.items) a.inverse.items
          h.is_modulus h.some h.small h.most_small refl h.wide h.stride_small
          (c.fill.ensures.items (λ y e. e) ∙ ap (λ (m : ℕ). replicate m 0) (a.known.ok.0 ∙ h.known_fit))
          (slots_none a.n a.n c.fill-2.new.self.items pivot) (slots_none a.n a.n c.fill-3.new.self.items number)
          (c.fill-4.ensures.items (λ y e. e) ∙ ap (λ (m : ℕ). replicate m 0) (a.spans.ok.0 ∙ h.spans_fit))
          h.rows_fit h.inverse_fit h.reduced_fit h.factors_fit h.inverse_below h.reduced_below h.factors_below;
      pivots_low = lows_none a.n a.n c.fill-2.new.self.items pivot;
      numbers_low = lows_none a.n a.n c.fill-3.new.self.items number;
    }

pub returns : goal.returns
returns c =
    let a = c.self.inside.reduction in
    let h = c.self.invariant.state in
    subst (λ (v : Elimination). IsEmpty v.bits v.modulus v.n v.most (record (elimination_of a) { count = 0; known = c.fill.new.self.items; pivots = slots a.n c.fill-2.new.self.items; spans = c.fill-4.new.self.items })) c.self.view_is
    (is_empty a.bits a.modulus a.n a.most (record (elimination_of a) { count = 0; known = c.fill.new.self.items; pivots = slots a.n c.fill-2.new.self.items; spans = c.fill-4.new.self.items }) refl refl refl refl
    (c.fill.ensures.items (λ y e. e) ∙ ap (λ (m : ℕ). replicate m 0) (a.known.ok.0 ∙ h.known_fit)) refl)
