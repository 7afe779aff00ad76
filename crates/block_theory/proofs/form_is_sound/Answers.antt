use Rattle.block_theory.proofs.Forms.{form_law}
use Rattle.block_theory.proofs.form_is_sound.Goals as goal

pub returns : goal.returns
returns c = form_law
