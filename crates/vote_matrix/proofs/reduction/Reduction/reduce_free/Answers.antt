use Rattle.std.proofs.Common.{ℕ, ◌≡◌, ◌+◌, ◌<◌, ◌∙◌, ap, arith, length, refl, sym, subst, List}
use Rattle.std.specs.Prelude.{Option, All, IfSome, slice_index}
use Rattle.std.specs.Vec.{with_items}
use Rattle.std.proofs.lemmas.List.{with_items_is}
use Rattle.vote_matrix.specs.Slots.{slots}
use Rattle.vote_matrix.specs.Stored.{elimination_of}
use Rattle.vote_matrix.proofs.Readings.{read_at}
use Rattle.vote_matrix.proofs.Slots.{length-slots}
use Rattle.vote_matrix.proofs.Stages.{IsFreed, freed_at, leads_at, leads_of, state_freed, freed_but, left_at}
use Rattle.vote_matrix.proofs.reduction.Reduction.reduce_free.Goals as goal

pub settle_free-rest-requires-clause-inside : goal.settle_free-rest-requires-clause-inside
settle_free-rest-requires-clause-inside g c =
    let a = c.args.self.now in
    let h = c.requires.stored in
    let from : c.index-from.result.now ≡ slice_index a.known.items c.args.i = read_at a.known.items c.args.i a.n c.index-from.result.now c.index-from.ensures c.requires.row h.state.known_fit in
    let long : length c.deref.result.now ≡ a.n = ap (λ (xs : List (Option ℕ)). length xs) c.deref.ensures.value ∙ sym (length-slots a.n a.number.items) ∙ h.state.numbers_fit in
    omega (arith, c.requires.columns)

pub settle_free-rest-requires-clause-wide : goal.settle_free-rest-requires-clause-wide
settle_free-rest-requires-clause-wide g c =
    let a = c.args.self.now in
    let h = c.requires.stored in
    let long : length c.deref.result.now ≡ a.n = ap (λ (xs : List (Option ℕ)). length xs) c.deref.ensures.value ∙ sym (length-slots a.n a.number.items) ∙ h.state.numbers_fit in
    omega (arith, h.state.wide)

pub settle_free-rest-requires-clause-span : goal.settle_free-rest-requires-clause-span
settle_free-rest-requires-clause-span g c =
    let a = c.args.self.now in
    let h = c.requires.stored in
    let span : c.index.result.now ≡ slice_index a.spans.items c.args.i = read_at a.spans.items c.args.i a.n c.index.result.now c.index.ensures c.requires.row h.state.spans_fit in
    omega (arith, h.state.has_pivots.spans c.args.i c.requires.row)

pub settle_free-rest-requires-clause-numbers : goal.settle_free-rest-requires-clause-numbers
settle_free-rest-requires-clause-numbers g c =
    let a = c.args.self.now in
    let h = c.requires.stored in
    let long : length c.deref.result.now ≡ a.n = ap (λ (xs : List (Option ℕ)). length xs) c.deref.ensures.value ∙ sym (length-slots a.n a.number.items) ∙ h.state.numbers_fit in
    subst (λ (m : ℕ). All (λ o. IfSome o (λ x. x < m)) c.deref.result.now) (sym long) (subst (λ (xs : List (Option ℕ)). All (λ o. IfSome o (λ x. x < a.n)) xs) (sym c.deref.ensures.value) h.numbers_low)

pub settle_free-rest-requires-clause-leads : goal.settle_free-rest-requires-clause-leads
settle_free-rest-requires-clause-leads g c =
    let a = c.args.self.now in
    let h = c.requires.stored in
    leads_at (g.F.Field.bits_of c.args.f.now) (g.F.Field.modulus_of c.args.f.now) a.bits a.modulus a.n a.stride a.count c.deref.result.now a.number.items c.deref-2.result.now c.deref_mut.result.now a.inverse.items a.reduced.items
    c.requires.bits c.requires.modulus c.deref.ensures.value (sym (length-slots a.n a.number.items) ∙ h.state.numbers_fit) c.deref-2.ensures.value c.deref_mut.ensures.value
    (leads_of (elimination_of a) (slots a.n a.number.items) a.inverse.items h.state)

pub returns-clause-stored : goal.returns-clause-stored
returns-clause-stored g c =
    let a = c.args.self.now in
    let h = c.requires.stored in
    let s = c.settle_free-rest in
    let from : c.index-from.result.now ≡ slice_index a.known.items c.args.i = read_at a.known.items c.args.i a.n c.index-from.result.now c.index-from.ensures c.requires.row h.state.known_fit in
    let span : c.index.result.now ≡ slice_index a.spans.items c.args.i = read_at a.spans.items c.args.i a.n c.index.result.now c.index.ensures c.requires.row h.state.spans_fit in
    let factors : List ℕ = (with_items a.factors s.new.factors).items in
    let reduced : List ℕ = (with_items a.reduced s.new.reduced).items in
    let w : IsFreed a.bits a.modulus a.stride a.most c.args.i (slice_index a.known.items c.args.i) (slice_index a.spans.items c.args.i) s.result.span a.count a.n s.result.column (slots a.n a.number.items) c.args.values.now a.factors.items factors a.reduced.items reduced =
    freed_at (g.F.Field.bits_of c.args.f.now) (g.F.Field.modulus_of c.args.f.now) c.index-from.result.now c.index.result.now a.bits a.modulus a.stride a.most c.args.i (slice_index a.known.items c.args.i) (slice_index a.spans.items c.args.i) s.result.span a.count a.n s.result.column
    c.deref.result.now a.number.items c.args.values.now c.deref_mut-2.result.now c.deref_mut.result.now a.factors.items s.new.factors factors a.reduced.items s.new.reduced reduced
    c.requires.bits c.requires.modulus from span c.deref.ensures.value (sym (length-slots a.n a.number.items) ∙ h.state.numbers_fit) c.deref_mut-2.ensures.value c.deref_mut.ensures.value
    (with_items_is a.factors s.new.factors (omega (arith, s.ensures.factors_long, c.deref_mut-2.ensures.len))) (with_items_is a.reduced s.new.reduced (omega (arith, s.ensures.reduced_long, c.deref_mut.ensures.len)))
    (record {
      reduced_long = s.ensures.reduced_long;
      factors_long = s.ensures.factors_long;
      reduced_symbols = s.ensures.reduced_symbols;
      factors_symbols = s.ensures.factors_symbols;
      few = s.ensures.few;
      left = s.ensures.left;
      kept = s.ensures.kept;
      settled = s.ensures.settled;
      rows = s.ensures.rows;
      stay = s.ensures.stay;
      before = s.ensures.before;
      after = s.ensures.after;
    }) in
    record {
      state =
          state_freed (elimination_of a) (slots a.n a.number.items) a.inverse.items h.state c.args.i (c.index-from.result.now + length c.args.values.now) (length c.args.values.now) c.requires.row
          (ap (λ (x : ℕ). x + length c.args.values.now) from) c.requires.columns c.requires.above s.result.span s.result.column c.args.values.now reduced factors refl c.requires.free c.requires.room w;
      pivots_low = h.pivots_low;
      numbers_low = h.numbers_low;
    }

pub returns-clause-left : goal.returns-clause-left
returns-clause-left g c =
    let a = c.args.self.now in
    let h = c.requires.stored in
    let s = c.settle_free-rest in
    let from : c.index-from.result.now ≡ slice_index a.known.items c.args.i = read_at a.known.items c.args.i a.n c.index-from.result.now c.index-from.ensures c.requires.row h.state.known_fit in
    let span : c.index.result.now ≡ slice_index a.spans.items c.args.i = read_at a.spans.items c.args.i a.n c.index.result.now c.index.ensures c.requires.row h.state.spans_fit in
    let factors : List ℕ = (with_items a.factors s.new.factors).items in
    let reduced : List ℕ = (with_items a.reduced s.new.reduced).items in
    let w : IsFreed a.bits a.modulus a.stride a.most c.args.i (slice_index a.known.items c.args.i) (slice_index a.spans.items c.args.i) s.result.span a.count a.n s.result.column (slots a.n a.number.items) c.args.values.now a.factors.items factors a.reduced.items reduced =
    freed_at (g.F.Field.bits_of c.args.f.now) (g.F.Field.modulus_of c.args.f.now) c.index-from.result.now c.index.result.now a.bits a.modulus a.stride a.most c.args.i (slice_index a.known.items c.args.i) (slice_index a.spans.items c.args.i) s.result.span a.count a.n s.result.column
    c.deref.result.now a.number.items c.args.values.now c.deref_mut-2.result.now c.deref_mut.result.now a.factors.items s.new.factors factors a.reduced.items s.new.reduced reduced
    c.requires.bits c.requires.modulus from span c.deref.ensures.value (sym (length-slots a.n a.number.items) ∙ h.state.numbers_fit) c.deref_mut-2.ensures.value c.deref_mut.ensures.value
    (with_items_is a.factors s.new.factors (omega (arith, s.ensures.factors_long, c.deref_mut-2.ensures.len))) (with_items_is a.reduced s.new.reduced (omega (arith, s.ensures.reduced_long, c.deref_mut.ensures.len)))
    (record {
      reduced_long = s.ensures.reduced_long;
      factors_long = s.ensures.factors_long;
      reduced_symbols = s.ensures.reduced_symbols;
      factors_symbols = s.ensures.factors_symbols;
      few = s.ensures.few;
      left = s.ensures.left;
      kept = s.ensures.kept;
      settled = s.ensures.settled;
      rows = s.ensures.rows;
      stay = s.ensures.stay;
      before = s.ensures.before;
      after = s.ensures.after;
    }) in
    left_at (elimination_of a) (slots a.n a.number.items) a.inverse.items h.state c.args.i (c.index-from.result.now + length c.args.values.now) (length c.args.values.now) c.requires.row
    (ap (λ (x : ℕ). x + length c.args.values.now) from) c.requires.columns c.requires.above s.result.span s.result.column c.args.values.now reduced factors refl c.requires.free c.requires.room w

pub returns-clause-all_but : goal.returns-clause-all_but
returns-clause-all_but g c =
    let a = c.args.self.now in
    let h = c.requires.stored in
    let s = c.settle_free-rest in
    let from : c.index-from.result.now ≡ slice_index a.known.items c.args.i = read_at a.known.items c.args.i a.n c.index-from.result.now c.index-from.ensures c.requires.row h.state.known_fit in
    let span : c.index.result.now ≡ slice_index a.spans.items c.args.i = read_at a.spans.items c.args.i a.n c.index.result.now c.index.ensures c.requires.row h.state.spans_fit in
    let factors : List ℕ = (with_items a.factors s.new.factors).items in
    let reduced : List ℕ = (with_items a.reduced s.new.reduced).items in
    let w : IsFreed a.bits a.modulus a.stride a.most c.args.i (slice_index a.known.items c.args.i) (slice_index a.spans.items c.args.i) s.result.span a.count a.n s.result.column (slots a.n a.number.items) c.args.values.now a.factors.items factors a.reduced.items reduced =
    freed_at (g.F.Field.bits_of c.args.f.now) (g.F.Field.modulus_of c.args.f.now) c.index-from.result.now c.index.result.now a.bits a.modulus a.stride a.most c.args.i (slice_index a.known.items c.args.i) (slice_index a.spans.items c.args.i) s.result.span a.count a.n s.result.column
    c.deref.result.now a.number.items c.args.values.now c.deref_mut-2.result.now c.deref_mut.result.now a.factors.items s.new.factors factors a.reduced.items s.new.reduced reduced
    c.requires.bits c.requires.modulus from span c.deref.ensures.value (sym (length-slots a.n a.number.items) ∙ h.state.numbers_fit) c.deref_mut-2.ensures.value c.deref_mut.ensures.value
    (with_items_is a.factors s.new.factors (omega (arith, s.ensures.factors_long, c.deref_mut-2.ensures.len))) (with_items_is a.reduced s.new.reduced (omega (arith, s.ensures.reduced_long, c.deref_mut.ensures.len)))
    (record {
      reduced_long = s.ensures.reduced_long;
      factors_long = s.ensures.factors_long;
      reduced_symbols = s.ensures.reduced_symbols;
      factors_symbols = s.ensures.factors_symbols;
      few = s.ensures.few;
      left = s.ensures.left;
      kept = s.ensures.kept;
      settled = s.ensures.settled;
      rows = s.ensures.rows;
      stay = s.ensures.stay;
      before = s.ensures.before;
      after = s.ensures.after;
    }) in
    freed_but (elimination_of a) (slots a.n a.number.items) a.inverse.items h.state c.args.i (c.index-from.result.now + length c.args.values.now) (length c.args.values.now) c.requires.row
    (ap (λ (x : ℕ). x + length c.args.values.now) from) c.requires.columns c.requires.above s.result.span s.result.column c.args.values.now reduced factors refl c.requires.free c.requires.room w
