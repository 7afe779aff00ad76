use Rattle.command_words.proofs.LineLemmas.{line-says}
use Rattle.command_words.proofs.command_lines_are_read.Goals as goal

pub returns : goal.returns
returns c = line-says
