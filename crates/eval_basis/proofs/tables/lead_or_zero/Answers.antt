use Rattle.std.proofs.Common.{sym, ◌∙◌}
use Rattle.order_domain.proofs.Values.{lead_at-is, lead_at-none}
use Rattle.eval_basis.proofs.tables.lead_or_zero.Goals as goal

pub returns-in-Some-clause-value : goal.returns-in-Some-clause-value
returns-in-Some-clause-value g c =
    c.lead.ensures.value ∙ sym (lead_at-is (g.D.OrderDomain.domain c.args.dom.now) (g.F.Field.modulus_of c.args.f.now) c.args.i c.args.j _ c.requires.left c.requires.right (sym c.in-Some.ensures))

pub returns-in-None-clause-value : goal.returns-in-None-clause-value
returns-in-None-clause-value g c = sym (lead_at-none (g.D.OrderDomain.domain c.args.dom.now) (g.F.Field.modulus_of c.args.f.now) c.args.i c.args.j (sym c.in-None.ensures))
