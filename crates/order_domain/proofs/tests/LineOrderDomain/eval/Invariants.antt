use Rattle.std.proofs.Common.{◌≡◌, ◌<◌}
use Rattle.gf_theory.specs.Field.{gf_pow}
use Rattle.order_domain.proofs.tests.LineOrderDomain.eval.Given as goal

abbrev pub invariant-loop : goal.invariant-loop
invariant-loop g l = record {
  power : l.value ≡ gf_pow 2 (g.F.Field.modulus_of l.f) l.p.x l.counter;
  symbol : l.value < 4;
}
