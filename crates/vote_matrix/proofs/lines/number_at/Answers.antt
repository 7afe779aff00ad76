use Rattle.std.proofs.Common.{length}
use Rattle.vote_matrix.proofs.Slots.{slot_read}
use Rattle.vote_matrix.proofs.lines.number_at.Goals as goal

pub returns : goal.returns
returns c = slot_read (length c.args.numbers.now) c.args.numbers.now c.args.column c.requires.column c.requires.numbers
