use Rattle.small_block.proofs.Words.{small_is_code}
use Rattle.small_block.proofs.SmallCodeBlockCode.n.Goals as goal

pub returns-clause-code : goal.returns-clause-code
returns-clause-code c = small_is_code
