use Rattle.std.proofs.Common.{length}
use Rattle.command_words.proofs.words.+settings_in.Given as goal

abbrev pub decreases-settings_in : goal.decreases-settings_in
decreases-settings_in l = length l.words.now
