use Rattle.stored_form.proofs.Theorems.{salvage_law, lost_law}
use Rattle.stored_form.proofs.reading_with_none_lost.Goals as goal

pub returns-clause-same : goal.returns-clause-same
returns-clause-same c = salvage_law

pub returns-clause-counts : goal.returns-clause-counts
returns-clause-counts c = lost_law
