use Rattle.block_code.proofs.Verdicts.{kept_word, told_verdict}
use Rattle.block_code.proofs.coded.CodeBlockCode.decode_block.Goals as goal

pub returns-clause-word : goal.returns-clause-word
returns-clause-word g c = kept_word c.args.self.now c.repair_block.ensures.made c.args.got.now c.requires.got_long c.repair_block.new.word c.repair_block.result c.repair_block.ensures.verdict

pub returns-clause-verdict : goal.returns-clause-verdict
returns-clause-verdict g c = told_verdict c.args.self.now c.repair_block.ensures.made c.args.got.now c.requires.got_long c.repair_block.new.word c.repair_block.result c.repair_block.ensures.verdict
