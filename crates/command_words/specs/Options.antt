-- command_word     the word that names a command
-- option_word      the word that names an option with a value
-- flag_word        the word that names a flag, which is an option without a value
-- has_option       whether a command has an option with a value
-- has_flag         whether a command has a flag
-- least_of         the least value of an option
-- greatest_of      the greatest value of an option
-- default_of       the value of an option that is not written
-- no_settings      no option is written
-- setting_of       the value of an option, where it is written
-- with_setting     the settings with one more
-- flag_of          whether a flag is written
-- with_flag        the settings with a flag
-- number_in        the number that a text writes, where it is a numeral and the number is from a least to a greatest
-- value_in         the value that a text writes for an option, where it is in its range
use Rattle.std.specs.Prelude.{ℕ, ◌-◌, ◌^◌, List, codes, Bool, true, false, ◌&&◌, nat_le, Option, Some, None, if◌then◌else◌}
use Rattle.ag_pool.specs.declared.workers.TheConstants.{MOST_WORKERS}
use Rattle.command_words.specs.declared.words.TheConstants.{MOST_TRIAL_BYTES, MOST_WANTED}
use Rattle.command_words.specs.declared.words.Command.{Command}
use Rattle.command_words.specs.declared.words.Command.TheVariants.{Member, Points, Params, Bound, Check, Encode, Decode, Votes, Trial, Erase, Design}
use Rattle.command_words.specs.declared.words.OptionName.{OptionName}
use Rattle.command_words.specs.declared.words.OptionName.TheVariants.{Seed, Bytes, Workers, Want}
use Rattle.command_words.specs.declared.words.FlagName.{FlagName}
use Rattle.command_words.specs.declared.words.FlagName.TheVariants.{Salvage}
use Rattle.command_words.specs.declared.words.Settings.{Settings}
use Rattle.command_words.specs.Numerals.{is_numeral, value_of}

abbrev pub command_word : Command → List ℕ
command_word Member = codes "member"
command_word Points = codes "points"
command_word Params = codes "params"
command_word Bound = codes "bound"
command_word Check = codes "check"
command_word Encode = codes "encode"
command_word Decode = codes "decode"
command_word Votes = codes "votes"
command_word Trial = codes "trial"
command_word Erase = codes "erase"
command_word Design = codes "design"

abbrev pub option_word : OptionName → List ℕ
option_word Seed = codes "--seed"
option_word Bytes = codes "--bytes"
option_word Workers = codes "--workers"
option_word Want = codes "--want"

abbrev pub flag_word : FlagName → List ℕ
flag_word Salvage = codes "--salvage"

abbrev pub has_option : Command → OptionName → Bool
has_option Trial Seed = true
has_option Trial Bytes = true
has_option Decode Workers = true
has_option Design Want = true
has_option _ _ = false

abbrev pub has_flag : Command → FlagName → Bool
has_flag Decode Salvage = true
has_flag _ _ = false

abbrev pub least_of : OptionName → ℕ
least_of Seed = 0
least_of Bytes = 0
least_of Workers = 1
least_of Want = 0

abbrev pub greatest_of : OptionName → ℕ
greatest_of Seed = 2 ^ 64 - 1
greatest_of Bytes = MOST_TRIAL_BYTES
greatest_of Workers = MOST_WORKERS
greatest_of Want = MOST_WANTED

abbrev pub default_of : OptionName → ℕ
default_of Seed = 1
default_of Bytes = 1000
default_of Workers = 1
default_of Want = 1

abbrev pub no_settings : Settings
no_settings = record { seed = None; bytes = None; workers = None; salvage = false; want = None }

abbrev pub setting_of : Settings → OptionName → Option ℕ
setting_of s Seed = s.seed
setting_of s Bytes = s.bytes
setting_of s Workers = s.workers
setting_of s Want = s.want

abbrev pub with_setting : Settings → OptionName → ℕ → Settings
with_setting s Seed v = record s { seed = Some v }
with_setting s Bytes v = record s { bytes = Some v }
with_setting s Workers v = record s { workers = Some v }
with_setting s Want v = record s { want = Some v }

abbrev pub flag_of : Settings → FlagName → Bool
flag_of s Salvage = s.salvage

abbrev pub with_flag : Settings → FlagName → Settings
with_flag s Salvage = record s { salvage = true }

unfoldable pub number_in : ℕ → ℕ → List ℕ → Option ℕ
number_in least greatest text =
    if is_numeral text && (nat_le least (value_of text) && nat_le (value_of text) greatest)
    then Some (value_of text) else None

abbrev pub value_in : OptionName → List ℕ → Option ℕ
value_in name text = number_in (least_of name) (greatest_of name) text
