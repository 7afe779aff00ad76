use Rattle.std.proofs.Common.{ℕ, ◌≡◌, ◌+◌, ap, arith, length, refl, sym, subst, List}
use Rattle.std.specs.Vec.{with_items}
use Rattle.std.proofs.lemmas.List.{with_items_is}
use Rattle.std.specs.Prelude.{slice_index}
use Rattle.vote_matrix.specs.Slots.{slots}
use Rattle.vote_matrix.specs.Stored.{elimination_of}
use Rattle.vote_matrix.proofs.Readings.{read_at}
use Rattle.vote_matrix.proofs.Stages.{IsExtended, extended_field, state_past, past_eliminated}
use Rattle.vote_matrix.proofs.reduction.Reduction.settle_past.Goals as goal

pub returns-clause-stored : goal.returns-clause-stored
returns-clause-stored g c =
    let a = c.args.self.now in
    let h = c.requires.stored in
    let from : c.index-from.result.now ≡ slice_index a.known.items c.args.i = read_at a.known.items c.args.i a.n c.index-from.result.now c.index-from.ensures c.requires.row h.state.known_fit in
    let span : c.index-span.result.now ≡ slice_index a.spans.items c.args.i = read_at a.spans.items c.args.i a.n c.index-span.result.now c.index-span.ensures c.requires.row h.state.spans_fit in
    let w : IsExtended a.bits a.modulus a.stride a.most c.args.i (slice_index a.known.items c.args.i) (slice_index a.spans.items c.args.i) c.args.own c.args.values.now a.factors.items a.reduced.items c.extend_row.new.reduced =
    extended_field (g.F.Field.bits_of c.args.f.now) (g.F.Field.modulus_of c.args.f.now) c.index-from.result.now c.index-span.result.now a.bits a.modulus a.stride a.most c.args.i (slice_index a.known.items c.args.i) (slice_index a.spans.items c.args.i) c.args.own c.args.values.now c.deref.result.now c.deref_mut.result.now a.factors.items a.reduced.items c.extend_row.new.reduced
    c.requires.bits c.requires.modulus from span c.deref.ensures.value c.deref_mut.ensures.value
    (record { long = c.extend_row.ensures.long; symbols = c.extend_row.ensures.symbols; settled = c.extend_row.ensures.settled; before = c.extend_row.ensures.before; after = c.extend_row.ensures.after }) in
    let table : List ℕ = (with_items a.reduced c.extend_row.new.reduced).items in
    let same : table ≡ c.extend_row.new.reduced = with_items_is a.reduced c.extend_row.new.reduced (omega (arith, c.extend_row.ensures.long, c.deref_mut.ensures.len)) in
    let z : IsExtended a.bits a.modulus a.stride a.most c.args.i (slice_index a.known.items c.args.i) (slice_index a.spans.items c.args.i) c.args.own c.args.values.now a.factors.items a.reduced.items table =
    subst (λ (zs : List ℕ). IsExtended a.bits a.modulus a.stride a.most c.args.i (slice_index a.known.items c.args.i) (slice_index a.spans.items c.args.i) c.args.own c.args.values.now a.factors.items a.reduced.items zs) (sym same) w in
    record {
      state =
          state_past (elimination_of a) (slots a.n a.number.items) a.inverse.items h.state c.args.i (c.index-from.result.now + length c.args.values.now) (length c.args.values.now) c.requires.row
          (ap (λ (x : ℕ). x + length c.args.values.now) from) c.requires.columns c.requires.above c.args.own c.args.values.now table refl c.requires.own.has c.requires.own.number_is z;
      pivots_low = h.pivots_low;
      numbers_low = h.numbers_low;
    }

pub returns-clause-eliminated : goal.returns-clause-eliminated
returns-clause-eliminated g c =
    let a = c.args.self.now in
    let h = c.requires.stored in
    let from : c.index-from.result.now ≡ slice_index a.known.items c.args.i = read_at a.known.items c.args.i a.n c.index-from.result.now c.index-from.ensures c.requires.row h.state.known_fit in
    let span : c.index-span.result.now ≡ slice_index a.spans.items c.args.i = read_at a.spans.items c.args.i a.n c.index-span.result.now c.index-span.ensures c.requires.row h.state.spans_fit in
    let w : IsExtended a.bits a.modulus a.stride a.most c.args.i (slice_index a.known.items c.args.i) (slice_index a.spans.items c.args.i) c.args.own c.args.values.now a.factors.items a.reduced.items c.extend_row.new.reduced =
    extended_field (g.F.Field.bits_of c.args.f.now) (g.F.Field.modulus_of c.args.f.now) c.index-from.result.now c.index-span.result.now a.bits a.modulus a.stride a.most c.args.i (slice_index a.known.items c.args.i) (slice_index a.spans.items c.args.i) c.args.own c.args.values.now c.deref.result.now c.deref_mut.result.now a.factors.items a.reduced.items c.extend_row.new.reduced
    c.requires.bits c.requires.modulus from span c.deref.ensures.value c.deref_mut.ensures.value
    (record { long = c.extend_row.ensures.long; symbols = c.extend_row.ensures.symbols; settled = c.extend_row.ensures.settled; before = c.extend_row.ensures.before; after = c.extend_row.ensures.after }) in
    let table : List ℕ = (with_items a.reduced c.extend_row.new.reduced).items in
    let same : table ≡ c.extend_row.new.reduced = with_items_is a.reduced c.extend_row.new.reduced (omega (arith, c.extend_row.ensures.long, c.deref_mut.ensures.len)) in
    let z : IsExtended a.bits a.modulus a.stride a.most c.args.i (slice_index a.known.items c.args.i) (slice_index a.spans.items c.args.i) c.args.own c.args.values.now a.factors.items a.reduced.items table =
    subst (λ (zs : List ℕ). IsExtended a.bits a.modulus a.stride a.most c.args.i (slice_index a.known.items c.args.i) (slice_index a.spans.items c.args.i) c.args.own c.args.values.now a.factors.items a.reduced.items zs) (sym same) w in
    past_eliminated (elimination_of a) (slots a.n a.number.items) a.inverse.items h.state c.args.i (c.index-from.result.now + length c.args.values.now) (length c.args.values.now) c.requires.row
    (ap (λ (x : ℕ). x + length c.args.values.now) from) c.requires.columns c.requires.above c.args.own c.args.values.now table refl c.requires.own.has c.requires.own.number_is z
