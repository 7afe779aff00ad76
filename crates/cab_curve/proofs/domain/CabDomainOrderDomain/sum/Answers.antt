use Rattle.cab_curve.proofs.Calls.{looked_up, sum-by_places}
use Rattle.cab_curve.proofs.domain.CabDomainOrderDomain.sum.Goals as goal

pub returns : goal.returns
returns c =
    rw (c.copied.ensures, looked_up _ _ _ c.get.ensures.lookup.0 c.get.ensures.lookup.1, c.deref.ensures.value, c.row.ensures.row.weight_is, c.row-2.ensures.row.weight_is)
    (sum-by_places _ _ _ _ _ _ _ c.args.self.now.tables)
