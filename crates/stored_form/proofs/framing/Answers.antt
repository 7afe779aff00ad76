use Rattle.stored_form.proofs.Theorems.{frame_law, fill_law, fill_bits_law, values_law, group_law}
use Rattle.stored_form.proofs.framing.Goals as goal

pub returns-clause-frame : goal.returns-clause-frame
returns-clause-frame c = frame_law

pub returns-clause-fill : goal.returns-clause-fill
returns-clause-fill c = fill_law

pub returns-clause-group : goal.returns-clause-group
returns-clause-group c = group_law

pub returns-clause-fill_bits : goal.returns-clause-fill_bits
returns-clause-fill_bits c = fill_bits_law

pub returns-clause-values : goal.returns-clause-values
returns-clause-values c = values_law
