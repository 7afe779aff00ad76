use Rattle.std.proofs.Common.{ℕ, ◌≡◌, ◌<◌, ◌^◌, slice_index}
use Rattle.std.specs.List.{AllWithin}
use Rattle.order_domain.specs.Values.{value_at}
use Rattle.eval_basis.proofs.members.evaluate.Given as goal

abbrev pub invariant-loop-p : goal.invariant-loop-p
invariant-loop-p g l = record {
  values : (q : ℕ) → q < l.p → slice_index l.values q ≡ value_at (g.D.OrderDomain.domain l.dom) (g.F.Field.modulus_of l.f) l.points l.i q;
  symbols : AllWithin (λ x. x < 2 ^ g.F.Field.bits_of l.f) l.values 0 l.p;
}
