use Rattle.std.proofs.Common.{ℕ, ◌≡◌, ◌+◌, ◌<◌, ◌^◌, slice_index, All}
use Rattle.gf_theory.specs.Field.{gf_mul}
use Rattle.gf_linear.specs.Cells.{cell}
use Rattle.product_classes.specs.Columns.{AreOthersKept}
use Rattle.product_classes.proofs.columns.write_class.Given as goal

abbrev pub invariant-loop-q : goal.invariant-loop-q
invariant-loop-q g l = record {
  symbols : All (λ x. x < 2 ^ g.F.Field.bits_of l.f) l.columns;
  value : (q : ℕ) → q < l.q → cell l.columns l.width q l.class ≡ gf_mul (g.F.Field.bits_of l.f) (g.F.Field.modulus_of l.f) (slice_index l.left (l.first + q)) (slice_index l.right (l.first + q));
  others : AreOthersKept l.width l.class l.initial.columns l.columns;
}
