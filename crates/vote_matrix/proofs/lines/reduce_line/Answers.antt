use Rattle.std.proofs.Common.{ℕ, ◌<◌, ◌∙◌, arith, refl, sym, subst, length}
use Rattle.vote_matrix.proofs.LineSteps.{zeros_more, number_low}
use Rattle.vote_matrix.proofs.lines.reduce_line.Goals as goal
use Rattle.vote_matrix.proofs.lines.reduce_line.Goals.{then-line-column-ne0+in-Some, else-line-column-ne0}

pub loop-column-preserved : goal.loop-column-preserved
loop-column-preserved g c = elim c.if-line-column-ne0.branch [
  | then-line-column-ne0+in-Some w ↦
      let o = w.in-Some.ensures in
      rw (w.line-is, w.own-is, w.span-is)
      (record {
        symbols = w.reduce_by-span.ensures.symbols;
        own_symbols = w.reduce_by-span.ensures.own_symbols;
        few = w.reduce_by-span.ensures.few (length c.args.inverses.now) c.loop-column.invariant.few (number_low c.requires.leads (omega (arith, c.loop-column-test.true, c.requires.inside)) o.same o.low);
        zeros = zeros_more c.loop-column.column c.loop-column.line w.reduce_by-span.new.line c.loop-column.invariant.zeros w.reduce_by-span.ensures.before w.reduce_by-span.ensures.zero;
        same = λ j l. w.reduce_by-span.ensures.same j l ∙ c.loop-column.invariant.same j l;
        rows = λ rows i up h. w.reduce_by-span.ensures.rows rows i (subst (λ (q : ℕ). rows q < i) o.same (up c.loop-column.column (omega (arith, c.loop-column.auto.column)) c.loop-column-test.true (subst (λ (q : ℕ). q < length c.args.numbers.now) (sym o.same) o.low))) (c.loop-column.invariant.rows rows i up h);
      })
  | else-line-column-ne0 w ↦
      rw (w.line-is, w.own-is, w.span-is)
      (record {
        symbols = c.loop-column.invariant.symbols;
        own_symbols = c.loop-column.invariant.own_symbols;
        few = c.loop-column.invariant.few;
        zeros = zeros_more c.loop-column.column c.loop-column.line c.loop-column.line c.loop-column.invariant.zeros (λ j l. refl) w.if-line-column-ne0.false;
        same = c.loop-column.invariant.same;
        rows = c.loop-column.invariant.rows;
      })
]
