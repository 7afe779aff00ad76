use Rattle.order_theory.proofs.Labels.{label_law}
use Rattle.order_theory.proofs.code_by_labels.Goals as goal

pub returns : goal.returns
returns c = label_law
