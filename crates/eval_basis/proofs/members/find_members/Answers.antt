use Rattle.std.proofs.Common.{List, sym, subst}
use Rattle.order_domain.specs.declared.Point.{Point}
use Rattle.order_domain.specs.Domain.{ArePoints}
use Rattle.eval_basis.proofs.members.find_members.Goals as goal

pub returns-clause-points : goal.returns-clause-points
returns-clause-points g c = record { distinct = c.as_slice-places.ensures.distinct; all_on = c.requires.on }

pub search-requires-clause-points : goal.search-requires-clause-points
search-requires-clause-points g c κs within =
    let are : ArePoints (g.D.OrderDomain.domain c.args.dom.now) (g.F.Field.modulus_of c.args.f.now) c.args.points.now = record { distinct = c.as_slice-places.ensures.distinct; all_on = c.requires.on } in
    subst (λ (w : List Point). ArePoints (g.D.OrderDomain.domain c.args.dom.now) (g.F.Field.modulus_of c.args.f.now) w) (sym c.as_slice-places.ensures.value) are
