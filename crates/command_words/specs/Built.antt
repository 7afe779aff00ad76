-- is_built           whether a command is built; the word of one that is not is no command yet
-- is_flag_built      the same of a flag
use Rattle.std.specs.Prelude.{Bool, true}
use Rattle.command_words.specs.declared.words.Command.{Command}
use Rattle.command_words.specs.declared.words.FlagName.{FlagName}
use Rattle.command_words.specs.declared.words.FlagName.TheVariants.{Salvage}

abbrev pub is_built : Command → Bool
is_built _ = true

abbrev pub is_flag_built : FlagName → Bool
is_flag_built Salvage = true
