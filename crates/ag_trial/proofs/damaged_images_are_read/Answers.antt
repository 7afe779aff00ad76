use Rattle.ag_trial.proofs.Images.{trial_law}
use Rattle.ag_trial.proofs.damaged_images_are_read.Goals as goal

pub returns : goal.returns
returns c = trial_law
