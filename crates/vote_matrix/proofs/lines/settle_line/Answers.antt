use Rattle.std.proofs.Common.{ℕ, ◌+◌, ◌∙◌, ap, arith, length, slice_index, bit_xor, take}
use Rattle.gf_theory.specs.Field.{gf_mul}
use Rattle.vote_matrix.specs.Lines.{line_kept}
use Rattle.vote_matrix.specs.Slots.{slots}
use Rattle.vote_matrix.proofs.LineSteps.{left_zeros, kept_of, settled_of, kept_front}
use Rattle.vote_matrix.proofs.lines.settle_line.Goals as goal

pub reduce_line-requires-clause-zeros : goal.reduce_line-requires-clause-zeros
reduce_line-requires-clause-zeros g c = λ j l. c.add_rows.ensures.before j l ∙ c.write_at.ensures.before j l ∙ c.clear_before.ensures.zeros j l

pub returns-clause-kept : goal.returns-clause-kept
returns-clause-kept g c =
    λ j l.
    kept_of (slice_index c.reduce_line.new.line j) (slice_index c.add_rows.new.line j)
    (line_kept (gf_mul (g.F.Field.bits_of c.args.f.now) (g.F.Field.modulus_of c.args.f.now)) c.args.stride c.reduce_line.result.span (slice_index c.reduce_line.new.own) c.args.above.now j)
    (line_kept (gf_mul (g.F.Field.bits_of c.args.f.now) (g.F.Field.modulus_of c.args.f.now)) c.args.stride c.args.span (slice_index c.args.own.now) c.args.above.now j)
    (left_zeros (length c.args.numbers.now) c.args.from (c.args.from + length c.args.values.now) (slots (length c.args.numbers.now) c.args.numbers.now) (slice_index c.reduce_line.new.line) c.reduce_line.result.column
    c.reduce_line.ensures.left (omega arith) j l)
    (c.add_rows.ensures.before j l ∙ c.write_at.ensures.before j l ∙ c.clear_before.ensures.zeros j l)
    (c.reduce_line.ensures.same j (omega arith))

pub returns-clause-settled : goal.returns-clause-settled
returns-clause-settled g c =
    λ q l.
    settled_of (slice_index c.reduce_line.new.line (c.args.from + q)) (slice_index c.add_rows.new.line (c.args.from + q)) (slice_index c.args.values.now q)
    (line_kept (gf_mul (g.F.Field.bits_of c.args.f.now) (g.F.Field.modulus_of c.args.f.now)) c.args.stride c.reduce_line.result.span (slice_index c.reduce_line.new.own) c.args.above.now (c.args.from + q))
    (line_kept (gf_mul (g.F.Field.bits_of c.args.f.now) (g.F.Field.modulus_of c.args.f.now)) c.args.stride c.args.span (slice_index c.args.own.now) c.args.above.now (c.args.from + q))
    (c.add_rows.ensures.added (c.args.from + q) (omega arith) (omega arith)
    ∙ ap (λ (x : ℕ). bit_xor x (line_kept (gf_mul (g.F.Field.bits_of c.args.f.now) (g.F.Field.modulus_of c.args.f.now)) c.args.stride (length (take c.args.span c.args.own.now)) (slice_index (take c.args.span c.args.own.now)) c.args.above.now (c.args.from + q))) (c.write_at.ensures.written q l)
    ∙ ap (λ (x : ℕ). bit_xor (slice_index c.args.values.now q) x) (kept_front (g.F.Field.bits_of c.args.f.now) (g.F.Field.modulus_of c.args.f.now) c.args.stride c.args.span c.args.own.now c.args.above.now (c.args.from + q) (omega (arith, c.requires.span, c.requires.few))))
    (c.reduce_line.ensures.same (c.args.from + q) (omega arith))
