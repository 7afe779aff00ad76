use Rattle.std.proofs.Common.{◌∙◌, slice_index, arith}
use Rattle.small_block.proofs.Words.{word_at}
use Rattle.small_block.proofs.SmallCodeBlockCode.encode_block.Goals as goal

pub returns : goal.returns
returns c =
    let msg = c.args.msg.now in
    let long = c.requires.message.0 in
    c.copy_from_slice.ensures.after ∙ word_at (slice_index msg 0) (slice_index msg 1) (slice_index msg 2) (c.requires.message.1 0 0 (omega arith)) (c.requires.message.1 1 0 (omega arith)) (c.requires.message.1 2 0 (omega arith))
