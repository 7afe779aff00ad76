use Rattle.std.proofs.Common.{sym}
use Rattle.order_bound.proofs.Staircase.{within_some, within_none}
use Rattle.order_bound.proofs.pairs.is_within.Goals as goal

pub returns-in-Some : goal.returns-in-Some
returns-in-Some g c = within_some (g.D.OrderDomain.domain c.args.dom.now) c.args.i c.args.j c.args.r c.in-Some.sum (sym c.in-Some.ensures)

pub returns-in-None : goal.returns-in-None
returns-in-None g c = within_none (g.D.OrderDomain.domain c.args.dom.now) c.args.i c.args.j c.args.r c.requires.sum (sym c.in-None.ensures)
