use Rattle.std.proofs.Common.{ℕ, ◌≡◌, ◌<◌, ◌∙◌, ap, arith}
use Rattle.std.specs.Prelude.{slice_index}
use Rattle.vote_matrix.specs.Slots.{slots}
use Rattle.vote_matrix.specs.Stored.{elimination_of}
use Rattle.vote_matrix.proofs.Readings.{read_at}
use Rattle.vote_matrix.proofs.Stages.{IsTaken, taken_at, taken_above, taken_sum}
use Rattle.vote_matrix.proofs.reduction.Reduction.take_row.Goals as goal

pub returns-clause-above : goal.returns-clause-above
returns-clause-above g c =
    let a = c.args.self.now in
    let h = c.requires.stored in
    let row : c.index.result.now ≡ slice_index a.rows.items c.args.t = read_at a.rows.items c.args.t a.most c.index.result.now c.index.ensures (omega (arith, h.state.few, c.requires.number)) h.state.rows_fit in
    let low : slice_index a.rows.items c.args.t < a.n = (h.state.has_pivots.own c.args.t c.requires.number).0 in
    let span : c.index-2.result.now ≡ slice_index a.spans.items (slice_index a.rows.items c.args.t) =
    read_at a.spans.items c.index.result.now a.n c.index-2.result.now c.index-2.ensures (omega arith) h.state.spans_fit ∙ ap (λ (q : ℕ). slice_index a.spans.items q) row in
    let w : IsTaken a.bits a.modulus a.most (slice_index a.rows.items c.args.t) (slice_index a.spans.items (slice_index a.rows.items c.args.t)) c.args.t a.factors.items c.args.out.now c.add_factors.new.out =
    taken_at (g.F.Field.bits_of c.args.f.now) (g.F.Field.modulus_of c.args.f.now) c.index.result.now c.index-2.result.now a.bits a.modulus a.most (slice_index a.rows.items c.args.t) (slice_index a.spans.items (slice_index a.rows.items c.args.t)) c.args.t
    c.deref.result.now a.factors.items c.args.out.now c.add_factors.new.out c.requires.bits c.requires.modulus row span c.deref.ensures.value (record { more = c.add_factors.ensures.more; rest = c.add_factors.ensures.rest }) in
    taken_above (elimination_of a) (slots a.n a.number.items) a.inverse.items h.state c.args.t (slice_index c.args.out.now) (slice_index c.add_factors.new.out) c.requires.number w.more w.rest

pub returns-clause-sum : goal.returns-clause-sum
returns-clause-sum g c =
    let a = c.args.self.now in
    let h = c.requires.stored in
    let row : c.index.result.now ≡ slice_index a.rows.items c.args.t = read_at a.rows.items c.args.t a.most c.index.result.now c.index.ensures (omega (arith, h.state.few, c.requires.number)) h.state.rows_fit in
    let low : slice_index a.rows.items c.args.t < a.n = (h.state.has_pivots.own c.args.t c.requires.number).0 in
    let span : c.index-2.result.now ≡ slice_index a.spans.items (slice_index a.rows.items c.args.t) =
    read_at a.spans.items c.index.result.now a.n c.index-2.result.now c.index-2.ensures (omega arith) h.state.spans_fit ∙ ap (λ (q : ℕ). slice_index a.spans.items q) row in
    let w : IsTaken a.bits a.modulus a.most (slice_index a.rows.items c.args.t) (slice_index a.spans.items (slice_index a.rows.items c.args.t)) c.args.t a.factors.items c.args.out.now c.add_factors.new.out =
    taken_at (g.F.Field.bits_of c.args.f.now) (g.F.Field.modulus_of c.args.f.now) c.index.result.now c.index-2.result.now a.bits a.modulus a.most (slice_index a.rows.items c.args.t) (slice_index a.spans.items (slice_index a.rows.items c.args.t)) c.args.t
    c.deref.result.now a.factors.items c.args.out.now c.add_factors.new.out c.requires.bits c.requires.modulus row span c.deref.ensures.value (record { more = c.add_factors.ensures.more; rest = c.add_factors.ensures.rest }) in
    taken_sum (elimination_of a) (slots a.n a.number.items) a.inverse.items h.state c.args.t (slice_index c.args.out.now) (slice_index c.add_factors.new.out) c.requires.number w.more w.rest
