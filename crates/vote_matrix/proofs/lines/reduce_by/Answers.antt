use Rattle.std.proofs.Common.{◌+◌, ◌*◌, ◌∙◌, slice_index, arith}
use Rattle.gf_theory.specs.Field.{gf_mul}
use Rattle.vote_matrix.specs.Lines.{line_kept}
use Rattle.vote_matrix.proofs.LineSteps.{sum_noted, above_noted, xor_moved, not_added, span_few}
use Rattle.vote_matrix.proofs.lines.reduce_by.Goals as goal

pub returns-clause-few : goal.returns-clause-few
returns-clause-few g c = span_few c.args.span c.note_factor.result c.args.number c.note_factor.ensures.least c.note_factor.ensures.only

pub returns-clause-before : goal.returns-clause-before
returns-clause-before g c =
    λ j l.
    c.clear_column-factor.ensures.added j (omega (arith, c.requires.column))
    ∙ not_added (g.F.Field.bits_of c.args.f.now) (g.F.Field.modulus_of c.args.f.now) (slice_index c.args.line.now j) c.clear_column-factor.result (slice_index c.args.above.now (c.args.number * c.args.stride + j)) (c.requires.zeros j l)

pub returns-clause-same : goal.returns-clause-same
returns-clause-same g c =
    λ j l.
    xor_moved (slice_index c.clear_column-factor.new.line j) (slice_index c.args.line.now j)
    (line_kept (gf_mul (g.F.Field.bits_of c.args.f.now) (g.F.Field.modulus_of c.args.f.now)) c.args.stride c.note_factor.result (slice_index c.note_factor.new.own) c.args.above.now j)
    (line_kept (gf_mul (g.F.Field.bits_of c.args.f.now) (g.F.Field.modulus_of c.args.f.now)) c.args.stride c.args.span (slice_index c.args.own.now) c.args.above.now j)
    (gf_mul (g.F.Field.bits_of c.args.f.now) (g.F.Field.modulus_of c.args.f.now) c.clear_column-factor.result (slice_index c.args.above.now (c.args.number * c.args.stride + j)))
    (c.clear_column-factor.ensures.added j l)
    (sum_noted (g.F.Field.bits_of c.args.f.now) (g.F.Field.modulus_of c.args.f.now) c.args.span c.note_factor.result c.args.number c.clear_column-factor.result (slice_index c.args.own.now) (slice_index c.note_factor.new.own)
    c.note_factor.ensures.least c.note_factor.ensures.here c.note_factor.ensures.only c.note_factor.ensures.others c.note_factor.ensures.gap c.note_factor.ensures.old c.note_factor.ensures.fresh
    (g.met.F.Field.is_modulus c.args.f.now) (λ t. slice_index c.args.above.now (t * c.args.stride + j)))

pub returns-clause-rows : goal.returns-clause-rows
returns-clause-rows g c =
    above_noted (g.F.Field.bits_of c.args.f.now) (g.F.Field.modulus_of c.args.f.now) c.args.span c.note_factor.result c.args.number c.clear_column-factor.result (slice_index c.args.own.now) (slice_index c.note_factor.new.own)
    c.note_factor.ensures.least c.note_factor.ensures.here c.note_factor.ensures.only c.note_factor.ensures.others c.note_factor.ensures.gap c.note_factor.ensures.old c.note_factor.ensures.fresh
