use Rattle.std.proofs.Common.{◌+◌, ◌*◌, ◌/◌, ◌-◌, ◌<◌, ◌^◌, slice_index, arith}
use Rattle.std.proofs.lemmas.List.Elements.{All-get_or}
use Rattle.vote_matrix.proofs.LineSteps.{part_added, column_cleared}
use Rattle.vote_matrix.proofs.lines.clear_column.Goals as goal

pub returns-clause-added : goal.returns-clause-added
returns-clause-added g c =
    let from = c.args.column / 16 * 16 in
    part_added (g.F.Field.bits_of c.args.f.now) (g.F.Field.modulus_of c.args.f.now) (c.args.number * c.args.stride) from (c.min.result - from) c.args.to c.mul-factor.result
    c.args.line.now c.add_part.new.dst c.args.above.now
    (omega (arith, c.min.ensures, c.requires.to, c.requires.column)) c.add_part.ensures.before (λ p l. c.requires.zeros p (omega (arith, c.requires.column))) c.add_part.ensures.added

pub returns-clause-zero : goal.returns-clause-zero
returns-clause-zero g c =
    let b = g.F.Field.bits_of c.args.f.now in
    let m = g.F.Field.modulus_of c.args.f.now in
    column_cleared b m (slice_index c.args.line.now c.args.column) (slice_index c.args.above.now (c.args.number * c.args.stride + c.args.column)) c.args.inverse c.mul-factor.result
    (slice_index c.add_part.new.dst c.args.column)
    (g.met.F.Field.is_modulus c.args.f.now)
    (All-get_or (λ x. x < 2 ^ b) c.args.line.now c.args.column 0 (omega (arith, c.requires.line, c.requires.column, c.requires.to)) c.requires.line_symbols)
    c.requires.lead c.mul-factor.ensures.product
    (returns-clause-added g c c.args.column c.requires.column)
