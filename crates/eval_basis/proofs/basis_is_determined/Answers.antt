use Rattle.eval_basis.proofs.Determined.{determined_law}
use Rattle.eval_basis.proofs.basis_is_determined.Goals as goal

pub returns : goal.returns
returns c = determined_law
