use Rattle.block_code.proofs.Made.{form_is_code}
use Rattle.block_code.proofs.coded.CodeBlockCode.n.Goals as goal

pub returns-clause-code : goal.returns-clause-code
returns-clause-code g c = form_is_code c.args.self.now c.n.ensures.made
