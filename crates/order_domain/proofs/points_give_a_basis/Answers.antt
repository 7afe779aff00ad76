use Rattle.order_domain.proofs.Values.{values_law}
use Rattle.order_domain.proofs.points_give_a_basis.Goals as goal

pub returns : goal.returns
returns c = values_law
