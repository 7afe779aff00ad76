use Rattle.std.proofs.Common.{ℕ, ◌≡◌, ◌<◌, ◌^◌, slice_index, All}
use Rattle.gf_linear.specs.Cells.{cell}
use Rattle.order_domain.specs.Values.{value_at}
use Rattle.eval_basis.proofs.members.evaluate_band.Given as goal

abbrev pub invariant-loop-b : goal.invariant-loop-b
invariant-loop-b g l = record {
  symbols : All (λ x. x < 2 ^ g.F.Field.bits_of l.f) l.values;
  done : (i p : ℕ) → i < l.b → p < l.n → cell l.values l.n i p ≡ value_at (g.D.OrderDomain.domain l.dom) (g.F.Field.modulus_of l.f) l.points (slice_index l.band i) p;
}
