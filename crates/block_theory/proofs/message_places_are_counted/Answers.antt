use Rattle.block_theory.proofs.Codewords.{places_law}
use Rattle.block_theory.proofs.Forms.{members_law}
use Rattle.block_theory.proofs.message_places_are_counted.Goals as goal

pub returns-clause-rank : goal.returns-clause-rank
returns-clause-rank c = places_law

pub returns-clause-members : goal.returns-clause-members
returns-clause-members c = members_law
