-- IsSetting        one or two words write an option of a command with a value: `--name=V`, or `--name` and `V`
-- AreSettings      words lead from some settings to others, one option or flag after the other, each at most once
-- IsPath           a path does not begin with `-`
-- IsCommandLine    words are a command that is built, its options, and a path as the last word; an option that is not
--                  written has its default, and a flag that is not written is not set
use Rattle.std.specs.Prelude.{◌≡◌, ◌≢◌, ℕ, ◌≤◌, List, [], ◌∷◌, ◌++◌, codes, true, false, None, ◌⊎◌, take}
use Rattle.std.specs.Option.{unwrap_or}
use Rattle.command_words.specs.declared.words.Command.{Command}
use Rattle.command_words.specs.declared.words.OptionName.{OptionName}
use Rattle.command_words.specs.declared.words.OptionName.TheVariants.{Seed, Bytes, Workers, Want}
use Rattle.command_words.specs.declared.words.FlagName.{FlagName}
use Rattle.command_words.specs.declared.words.FlagName.TheVariants.{Salvage}
use Rattle.command_words.specs.declared.words.Words.{Words}
use Rattle.command_words.specs.declared.words.Settings.{Settings}
use Rattle.command_words.specs.Numerals.{is_numeral, value_of}
use Rattle.command_words.specs.Built.{is_built, is_flag_built}
use Rattle.command_words.specs.Options.{command_word, option_word, flag_word, has_option, has_flag, least_of, greatest_of, default_of, no_settings, setting_of, with_setting, flag_of, with_flag}

pub record IsSetting (command : Command) (name : OptionName) (value : ℕ) (words : List (List ℕ)) : Type 0 where
  pub allowed : has_option command name ≡ true
  pub digits : List ℕ
  pub numeral : is_numeral digits ≡ true
  pub value_is : value ≡ value_of digits
  pub at_least : least_of name ≤ value
  pub at_most : value ≤ greatest_of name
  pub written : (words ≡ (option_word name ++ codes "=" ++ digits) ∷ []) ⊎ (words ≡ option_word name ∷ digits ∷ [])

pub data AreSettings (command : Command) : Settings → List (List ℕ) → Settings → Type 0 where
  none : {s : Settings} → AreSettings command s [] s
  more : {front rest : List (List ℕ)} {s t : Settings} (name : OptionName) (value : ℕ) → setting_of s name ≡ None →
      IsSetting command name value front → AreSettings command (with_setting s name value) rest t →
      AreSettings command s (front ++ rest) t
  flag : {rest : List (List ℕ)} {s t : Settings} (name : FlagName) → flag_of s name ≡ false →
      has_flag command name ≡ true → is_flag_built name ≡ true → AreSettings command (with_flag s name) rest t →
      AreSettings command s (flag_word name ∷ rest) t

abbrev pub IsPath : List ℕ → Type 0
IsPath word = take 1 word ≢ codes "-"

pub record IsCommandLine (texts : List (List ℕ)) (w : Words) : Type 0 where
  pub built : is_built w.command ≡ true
  pub options : List (List ℕ)
  pub path : List ℕ
  pub settings : Settings
  pub shape : texts ≡ command_word w.command ∷ (options ++ path ∷ [])
  pub are_settings : AreSettings w.command no_settings options settings
  pub is_path : IsPath path
  pub seed : w.seed ≡ unwrap_or (setting_of settings Seed) (default_of Seed)
  pub bytes : w.bytes ≡ unwrap_or (setting_of settings Bytes) (default_of Bytes)
  pub workers : w.workers ≡ unwrap_or (setting_of settings Workers) (default_of Workers)
  pub salvage : w.salvage ≡ flag_of settings Salvage
  pub want : w.want ≡ unwrap_or (setting_of settings Want) (default_of Want)
