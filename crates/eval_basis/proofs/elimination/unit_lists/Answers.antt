use Rattle.std.proofs.Common.{arith}
use Rattle.field_theory.specs.Sums.{unit}
use Rattle.eval_basis.proofs.Pushing.{pushed_row}
use Rattle.eval_basis.proofs.elimination.unit_lists.Goals as goal

pub loop-p-preserved : goal.loop-p-preserved
loop-p-preserved g c = record {
  pushed = pushed_row c.args.n unit c.loop-q.symbols.items c.loop-p.p c.loop-q.q c.loop-q.invariant.pushed (omega arith);
  symbols = c.loop-q.invariant.symbols;
}
