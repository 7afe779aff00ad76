use Rattle.eval_basis.proofs.ByLabels.{at_most_law}
use Rattle.eval_basis.proofs.code_by_labels.Goals as goal

pub returns : goal.returns
returns c = at_most_law
