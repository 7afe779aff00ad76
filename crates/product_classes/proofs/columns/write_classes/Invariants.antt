use Rattle.std.proofs.Common.{◌<◌, ◌^◌, All}
use Rattle.product_classes.specs.Columns.{AreColumns}
use Rattle.product_classes.proofs.columns.write_classes.Given as goal

abbrev pub invariant-loop-class : goal.invariant-loop-class
invariant-loop-class g l = record {
  symbols : All (λ x. x < 2 ^ l.basis.bits) l.columns;
  value : AreColumns l.basis l.lefts l.rights l.first l.width l.class l.columns;
}
