use Rattle.std.proofs.Common.{length, slice_index, ◌<◌, ◌^◌, All}
use Rattle.order_domain.specs.Values.{lead_at}
use Rattle.eval_basis.proofs.Pushing.{IsPushed}
use Rattle.eval_basis.proofs.tables.leads_of.Given as goal

abbrev pub invariant-loop-i : goal.invariant-loop-i
invariant-loop-i g l = record {
  pushed : IsPushed (length l.ranks) (λ i j. lead_at (g.D.OrderDomain.domain l.dom) (g.F.Field.modulus_of l.f) (slice_index l.ranks i) (slice_index l.ranks j)) l.leads.items l.i 0;
  symbols : All (λ x. x < 2 ^ g.F.Field.bits_of l.f) l.leads.items;
}

abbrev pub invariant-loop-j : goal.invariant-loop-j
invariant-loop-j g l = record {
  pushed : IsPushed (length l.ranks) (λ i j. lead_at (g.D.OrderDomain.domain l.dom) (g.F.Field.modulus_of l.f) (slice_index l.ranks i) (slice_index l.ranks j)) l.leads.items l.i l.j;
  symbols : All (λ x. x < 2 ^ g.F.Field.bits_of l.f) l.leads.items;
}
