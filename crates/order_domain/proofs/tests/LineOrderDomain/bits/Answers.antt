use Rattle.order_domain.specs.LineLaws.{line-lawful}
use Rattle.order_domain.proofs.tests.LineOrderDomain.bits.Goals as goal

pub returns-clause-lawful : goal.returns-clause-lawful
returns-clause-lawful c = line-lawful
