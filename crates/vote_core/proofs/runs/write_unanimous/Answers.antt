use Rattle.std.proofs.Common.{◌≤◌, ◌<◌, ◌∙◌, length, sym, arith}
use Rattle.vote_core.proofs.Lines.{lines_same, written_more, line_of_none}
use Rattle.vote_core.proofs.runs.write_unanimous.Goals as goal
use Rattle.vote_core.proofs.runs.write_unanimous.Goals.{then-not-marks-k, else-not-marks-k}

pub loop-k-preserved : goal.loop-k-preserved
loop-k-preserved g c =
    let low : c.loop-k.k < c.args.basis.now.n = omega arith in
    let few : c.loop-k.told ≤ c.loop-k.k = c.loop-k.invariant.few in
    let long : c.loop-k.told < length c.loop-k.lines = omega (arith, c.loop-k.auto.lines, c.requires.lines) in
    elim c.if-not-marks-k.branch [
      | then-not-marks-k w ↦
          record {
            few = omega (arith, w.told-is);
            written = λ e ew z.
                rw (w.lines-is, w.told-is)
                (written_more c.args.basis.now c.args.marks.now e c.loop-k.k c.loop-k.told c.loop-k.lines _ w.if-not-marks-k.true long
                (line_of_none c.args.basis.now e c.loop-k.k w.label.result w.pairs-pairs.result c.n-k-end.ensures.sound ew z low w.label.ensures.value w.pairs-pairs.ensures.value)
                (c.loop-k.invariant.written e ew z));
          }
      | else-not-marks-k w ↦
          record {
            few = omega (arith, w.told-is);
            written = λ e ew z. rw (w.lines-is, w.told-is) (c.loop-k.invariant.written e ew z ∙ sym (lines_same c.args.basis.now c.args.marks.now e c.loop-k.k w.if-not-marks-k.false));
          }
    ]
