-- command_named    the command that a word names
-- option_named     the option with a value that a word names
-- flag_named       the flag that a word names
-- has_equals       whether a word has an `=`
-- name_part        what stands before the first `=`
-- value_part       what stands after the first `=`
-- with_value       settings with a value, where there is one
-- added_to         some settings with an option and the value that a text writes, where the command has that option, it
--                  is not written yet and the text writes a value in its range
-- added            the same, by the word that names the option
-- flagged          some settings with a flag, where the command has it, it is built and not written yet
-- flagged_by       the same, where a flag is named
-- is_flag_word     whether a word names a flag
-- settings_in      some settings with those that words write
-- words_of         a command and its settings, with defaults
-- is_path          whether a word does not begin with `-`
use Rattle.std.specs.Prelude.{ℕ, List, [], ◌∷◌, codes, Bool, not, ◌&&◌, nat_lt, eqb, Option, Some, None, option_and_then, is_none, is_some, if◌then◌else◌, length, take}
use Rattle.std.specs.Option.{unwrap_or}
use Rattle.std.specs.Str.{bytes_eq}
use Rattle.std.specs.List.{before_first, after_first, position_or_len}
use Rattle.command_words.specs.declared.words.Command.{Command}
use Rattle.command_words.specs.declared.words.Command.TheVariants.{Member, Points, Params, Bound, Check, Encode, Decode, Votes, Trial, Erase, Design}
use Rattle.command_words.specs.declared.words.OptionName.{OptionName}
use Rattle.command_words.specs.declared.words.OptionName.TheVariants.{Seed, Bytes, Workers, Want}
use Rattle.command_words.specs.declared.words.FlagName.{FlagName}
use Rattle.command_words.specs.declared.words.FlagName.TheVariants.{Salvage}
use Rattle.command_words.specs.declared.words.Words.{Words}
use Rattle.command_words.specs.declared.words.Settings.{Settings}
use Rattle.command_words.specs.Built.{is_flag_built}
use Rattle.command_words.specs.Options.{has_option, has_flag, default_of, setting_of, with_setting, flag_of, with_flag, value_in}

unfoldable pub command_named : List ℕ → Option Command
command_named word =
    if bytes_eq word (codes "member") then Some Member else
    if bytes_eq word (codes "points") then Some Points else
    if bytes_eq word (codes "params") then Some Params else
    if bytes_eq word (codes "bound") then Some Bound else
    if bytes_eq word (codes "check") then Some Check else
    if bytes_eq word (codes "encode") then Some Encode else
    if bytes_eq word (codes "decode") then Some Decode else
    if bytes_eq word (codes "votes") then Some Votes else
    if bytes_eq word (codes "trial") then Some Trial else
    if bytes_eq word (codes "erase") then Some Erase else
    if bytes_eq word (codes "design") then Some Design else None

unfoldable pub option_named : List ℕ → Option OptionName
option_named word =
    if bytes_eq word (codes "--seed") then Some Seed else
    if bytes_eq word (codes "--bytes") then Some Bytes else
    if bytes_eq word (codes "--workers") then Some Workers else
    if bytes_eq word (codes "--want") then Some Want else None

unfoldable pub flag_named : List ℕ → Option FlagName
flag_named word =
    if bytes_eq word (codes "--salvage") then Some Salvage else None

abbrev pub has_equals : List ℕ → Bool
has_equals word = nat_lt (position_or_len (λ b. eqb b 61) word) (length word)

abbrev pub name_part : List ℕ → List ℕ
name_part word = before_first (λ b. eqb b 61) word

abbrev pub value_part : List ℕ → List ℕ
value_part word = after_first (λ b. eqb b 61) word

abbrev pub with_value : Settings → OptionName → Option ℕ → Option Settings
with_value s name None = None
with_value s name (Some v) = Some (with_setting s name v)

abbrev pub added_to : Command → Settings → Option OptionName → List ℕ → Option Settings
added_to command s None text = None
added_to command s (Some name) text =
    if has_option command name && is_none (setting_of s name)
    then with_value s name (value_in name text) else None

unfoldable pub added : Command → Settings → List ℕ → List ℕ → Option Settings
added command s name text = added_to command s (option_named name) text

abbrev pub flagged : Command → Settings → FlagName → Option Settings
flagged command s name =
    if (has_flag command name && is_flag_built name) && not (flag_of s name) then Some (with_flag s name) else None

abbrev pub flagged_by : Command → Settings → Option FlagName → Option Settings
flagged_by command s None = None
flagged_by command s (Some name) = flagged command s name

abbrev pub is_flag_word : List ℕ → Bool
is_flag_word word = is_some (flag_named word)

abbrev pub settings_in : Command → Settings → List (List ℕ) → Option Settings
settings_in command s [] = Some s
settings_in command s (word ∷ []) =
    if has_equals word then added command s (name_part word) (value_part word) else
    if is_flag_word word then flagged_by command s (flag_named word) else None
settings_in command s (word ∷ next ∷ rest) =
    if has_equals word then
    option_and_then (λ t. settings_in command t (next ∷ rest)) (added command s (name_part word) (value_part word))
    else
    if is_flag_word word then
    option_and_then (λ t. settings_in command t (next ∷ rest)) (flagged_by command s (flag_named word))
    else option_and_then (λ t. settings_in command t rest) (added command s word next)

abbrev pub words_of : Command → Settings → Words
words_of command s = record {
  command = command;
  seed = unwrap_or (setting_of s Seed) (default_of Seed);
  bytes = unwrap_or (setting_of s Bytes) (default_of Bytes);
  workers = unwrap_or (setting_of s Workers) (default_of Workers);
  salvage = flag_of s Salvage;
  want = unwrap_or (setting_of s Want) (default_of Want);
}

abbrev pub is_path : List ℕ → Bool
is_path word = not (bytes_eq (take 1 word) (codes "-"))
