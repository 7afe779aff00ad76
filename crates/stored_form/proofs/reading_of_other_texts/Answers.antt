use Rattle.stored_form.proofs.Theorems.{beyond_law, ragged_law, framing_law, out_law}
use Rattle.stored_form.proofs.reading_of_other_texts.Goals as goal

pub returns-clause-beyond : goal.returns-clause-beyond
returns-clause-beyond c = beyond_law

pub returns-clause-ragged : goal.returns-clause-ragged
returns-clause-ragged c = ragged_law

pub returns-clause-framing : goal.returns-clause-framing
returns-clause-framing c = framing_law

pub returns-clause-out : goal.returns-clause-out
returns-clause-out c = out_law
