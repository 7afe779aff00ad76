use Rattle.stored_form.proofs.Theorems.{image_law, file_law, change_law, list_law}
use Rattle.stored_form.proofs.reading_of_images.Goals as goal

pub returns-clause-image : goal.returns-clause-image
returns-clause-image c = image_law

pub returns-clause-file : goal.returns-clause-file
returns-clause-file c = file_law

pub returns-clause-change : goal.returns-clause-change
returns-clause-change c = change_law

pub returns-clause-list : goal.returns-clause-list
returns-clause-list c = list_law
