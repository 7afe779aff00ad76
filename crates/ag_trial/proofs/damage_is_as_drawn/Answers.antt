use Rattle.ag_trial.proofs.Counts.{damage_law}
use Rattle.ag_trial.proofs.damage_is_as_drawn.Goals as goal

pub returns : goal.returns
returns c = damage_law
