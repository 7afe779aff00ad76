use Rattle.std.proofs.Common.{◌<◌, ◌^◌, All}
use Rattle.order_domain.specs.Values.{value_at}
use Rattle.eval_basis.proofs.Pushing.{IsPushed}
use Rattle.order_bound.proofs.functions.values_of.Given as goal

abbrev pub invariant-loop-p : goal.invariant-loop-p
invariant-loop-p g l = record {
  pushed : IsPushed l.end (λ p i. value_at (g.D.OrderDomain.domain l.dom) (g.F.Field.modulus_of l.f) l.points i p) l.values.items l.p 0;
  symbols : All (λ x. x < 2 ^ g.F.Field.bits_of l.f) l.values.items;
}

abbrev pub invariant-loop-i : goal.invariant-loop-i
invariant-loop-i g l = record {
  pushed : IsPushed l.end (λ p i. value_at (g.D.OrderDomain.domain l.dom) (g.F.Field.modulus_of l.f) l.points i p) l.values.items l.p l.i;
  symbols : All (λ x. x < 2 ^ g.F.Field.bits_of l.f) l.values.items;
}
