use Rattle.std.proofs.Common.{◌∙◌}
use Rattle.small_block.proofs.Words.{first_three}
use Rattle.small_block.proofs.SmallCodeBlockCode.message.Goals as goal

pub returns : goal.returns
returns c = c.copy_from_slice.ensures.after ∙ first_three c.args.word.now c.requires.word_long
