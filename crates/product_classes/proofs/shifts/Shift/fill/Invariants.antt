use Rattle.std.proofs.Common.{◌<◌}
use Rattle.product_classes.proofs.Shifting.{IsFilled}
use Rattle.product_classes.proofs.shifts.Shift.fill.Given as goal

abbrev pub invariant-loop-i : goal.invariant-loop-i
invariant-loop-i g l = record {
  inside : l.from < l.basis.n;
  filled : IsFilled l.basis l.by l.i l.self.next.items l.self.back.items;
}
