use Rattle.std.proofs.Common.{slice_index, ◌∙◌}
use Rattle.vote_matrix.proofs.LineSteps.{row_added}
use Rattle.vote_matrix.proofs.lines.add_rows.Goals as goal

pub loop-t-preserved : goal.loop-t-preserved
loop-t-preserved g c = record {
  symbols = c.add_part.ensures.symbols;
  added =
      row_added (g.F.Field.bits_of c.args.f.now) (g.F.Field.modulus_of c.args.f.now) c.args.stride c.args.at c.args.len c.loop-t.t c.args.line.now c.loop-t.line c.add_part.new.dst c.args.above.now
      (slice_index c.args.factors.now) c.add_part.ensures.added c.loop-t.invariant.added;
  before = λ p l. c.add_part.ensures.before p l ∙ c.loop-t.invariant.before p l;
  after = λ p l. c.add_part.ensures.after p l ∙ c.loop-t.invariant.after p l;
}
