use Rattle.product_classes.proofs.Staircase.{AreReaching}
use Rattle.product_classes.proofs.reaches.write_reaches.Given as goal

abbrev pub invariant-loop-i : goal.invariant-loop-i
invariant-loop-i g l = AreReaching l.basis l.limit l.i l.most l.reaches
