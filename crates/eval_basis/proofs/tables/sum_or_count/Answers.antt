use Rattle.std.proofs.Common.{sym, ◌∙◌}
use Rattle.order_domain.proofs.Values.{sum_or_count-some, sum_or_count-none}
use Rattle.eval_basis.proofs.tables.sum_or_count.Goals as goal

pub returns-in-Some : goal.returns-in-Some
returns-in-Some g c = sym (sum_or_count-some (g.D.OrderDomain.domain c.args.dom.now) c.args.i c.args.j _ (sym c.in-Some.ensures))

pub returns-in-None : goal.returns-in-None
returns-in-None g c = c.count.ensures ∙ sym (sum_or_count-none (g.D.OrderDomain.domain c.args.dom.now) c.args.i c.args.j (sym c.in-None.ensures))
