use Rattle.order_example.proofs.Example.{small_basis-sound}
use Rattle.order_example.proofs.small_basis_is_sound.Goals as goal

pub returns : goal.returns
returns c = small_basis-sound
