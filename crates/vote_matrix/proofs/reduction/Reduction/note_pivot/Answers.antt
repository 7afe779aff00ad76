use Rattle.std.proofs.Common.{ℕ, ◌≡◌, ◌+◌, ◌*◌, ◌<◌, ◌^◌, subst, arith}
use Rattle.std.specs.Prelude.{Some}
use Rattle.linear_theory.proofs.Tables.{place_below}
use Rattle.vote_matrix.specs.Slots.{slots}
use Rattle.vote_matrix.specs.Elimination.{reduced_at}
use Rattle.vote_matrix.specs.Stored.{elimination_of}
use Rattle.vote_matrix.proofs.Readings.{read_at}
use Rattle.vote_matrix.proofs.Slots.{length-slots, slots-set, lows_set}
use Rattle.vote_matrix.proofs.Stages.{state_made, made_eliminated, column_low, pivots_room, unit_at}
use Rattle.vote_matrix.proofs.reduction.Reduction.note_pivot.Goals as goal

pub index_mut-requires : goal.index_mut-requires
index_mut-requires g c =
    let a = c.args.self.now in
    omega (arith, a.pivot.ok.0, length-slots a.n a.pivot.items, c.requires.stored.state.pivots_fit, c.requires.row)

pub index_mut-requires-2 : goal.index_mut-requires-2
index_mut-requires-2 g c =
    let a = c.args.self.now in
    let low : c.args.column < a.n = column_low (elimination_of a) (slots a.n a.number.items) a.inverse.items c.requires.stored.state c.args.i c.args.column c.requires.row c.requires.column in
    omega (arith, a.number.ok.0, length-slots a.n a.number.items, c.requires.stored.state.numbers_fit)

pub returns-clause-stored : goal.returns-clause-stored
returns-clause-stored g c =
    let a = c.args.self.now in
    let h = c.requires.stored in
    let low : c.args.column < a.n = column_low (elimination_of a) (slots a.n a.number.items) a.inverse.items h.state c.args.i c.args.column c.requires.row c.requires.column in
    let lead : c.index-lead.result.now ≡ reduced_at (elimination_of a) a.count c.args.column =
    read_at a.reduced.items (a.count * a.stride + c.args.column) (a.most * a.stride) c.index-lead.result.now c.index-lead.ensures
    (place_below a.most a.stride a.count c.args.column (a.most * a.stride) c.requires.room (omega (arith, h.state.wide)) (let e : a.most * a.stride ≡ a.most * a.stride = omega arith in e)) h.state.reduced_fit in
    record {
      state =
          rw (slots-set a.n a.pivot.items c.args.i (Some c.args.column), slots-set a.n a.number.items c.args.column (Some a.count))
          (state_made (elimination_of a) (slots a.n a.number.items) a.inverse.items h.state c.args.i c.args.column c.inv.result c.requires.row c.requires.column c.requires.free c.requires.none c.requires.room c.requires.zeros
          (subst (λ (b : ℕ). c.inv.result < 2 ^ b) c.requires.bits c.inv.ensures.result_element)
          (unit_at (g.F.Field.bits_of c.args.f.now) (g.F.Field.modulus_of c.args.f.now) a.bits a.modulus c.index-lead.result.now (reduced_at (elimination_of a) a.count c.args.column) c.inv.result c.requires.bits c.requires.modulus lead c.inv.ensures.inverse));
      pivots_low = lows_set a.n a.pivot.items c.args.i c.args.column low h.pivots_low;
      numbers_low = lows_set a.n a.number.items c.args.column a.count (pivots_room (elimination_of a) (slots a.n a.number.items) a.inverse.items h.state c.args.i c.requires.row c.requires.free) h.numbers_low;
    }

pub returns-clause-eliminated : goal.returns-clause-eliminated
returns-clause-eliminated g c =
    let a = c.args.self.now in
    let h = c.requires.stored in
    let lead : c.index-lead.result.now ≡ reduced_at (elimination_of a) a.count c.args.column =
    read_at a.reduced.items (a.count * a.stride + c.args.column) (a.most * a.stride) c.index-lead.result.now c.index-lead.ensures
    (place_below a.most a.stride a.count c.args.column (a.most * a.stride) c.requires.room (omega (arith, h.state.wide, column_low (elimination_of a) (slots a.n a.number.items) a.inverse.items h.state c.args.i c.args.column c.requires.row c.requires.column)) (let e : a.most * a.stride ≡ a.most * a.stride = omega arith in e)) h.state.reduced_fit in
    rw (slots-set a.n a.pivot.items c.args.i (Some c.args.column))
    (made_eliminated (elimination_of a) (slots a.n a.number.items) a.inverse.items h.state c.args.i c.args.column c.inv.result c.requires.row c.requires.column c.requires.free c.requires.none c.requires.room c.requires.zeros
    (subst (λ (b : ℕ). c.inv.result < 2 ^ b) c.requires.bits c.inv.ensures.result_element)
    (unit_at (g.F.Field.bits_of c.args.f.now) (g.F.Field.modulus_of c.args.f.now) a.bits a.modulus c.index-lead.result.now (reduced_at (elimination_of a) a.count c.args.column) c.inv.result c.requires.bits c.requires.modulus lead c.inv.ensures.inverse))
