use Rattle.stored_form.proofs.SmallCodeLemmas.{small_form_is_sound, small_images, small_readings, small_outputs, small_changes, small_salvage, small_packed_texts}
use Rattle.stored_form.proofs.small_code.Goals as goal

pub returns-clause-sound : goal.returns-clause-sound
returns-clause-sound c = small_form_is_sound

pub returns-clause-images : goal.returns-clause-images
returns-clause-images c = small_images

pub returns-clause-readings : goal.returns-clause-readings
returns-clause-readings c = small_readings

pub returns-clause-outputs : goal.returns-clause-outputs
returns-clause-outputs c = small_outputs

pub returns-clause-changes : goal.returns-clause-changes
returns-clause-changes c = small_changes

pub returns-clause-salvage : goal.returns-clause-salvage
returns-clause-salvage c = small_salvage

pub returns-clause-packed : goal.returns-clause-packed
returns-clause-packed c = small_packed_texts
