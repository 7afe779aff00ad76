use Rattle.cab_curve.specs.DomainLaws.{cab_domain-lawful}
use Rattle.cab_curve.proofs.domain.CabDomainOrderDomain.bits.Goals as goal

pub returns-clause-lawful : goal.returns-clause-lawful
returns-clause-lawful c = cab_domain-lawful c.args.self.now.curve c.args.self.now.is_curve.equation
