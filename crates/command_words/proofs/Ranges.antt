-- The values of the options that accepted words ask for are in their ranges
use Rattle.std.proofs.Common.{ℕ, ◌≤◌, List, Option, Some, None, sym, subst, arith}
use Rattle.std.specs.Option.{unwrap_or}
use Rattle.command_words.specs.declared.words.TheConstants.{MOST_TRIAL_BYTES, MOST_WANTED}
use Rattle.command_words.specs.declared.words.Command.{Command}
use Rattle.command_words.specs.declared.words.OptionName.{OptionName}
use Rattle.command_words.specs.declared.words.OptionName.TheVariants.{Seed, Bytes, Workers, Want}
use Rattle.command_words.specs.declared.words.FlagName.{FlagName}
use Rattle.command_words.specs.declared.words.FlagName.TheVariants.{Salvage}
use Rattle.command_words.specs.declared.words.Words.{Words}
use Rattle.command_words.specs.declared.words.Settings.{Settings}
use Rattle.command_words.specs.Lines.{IsSetting, AreSettings, none, more, flag, IsCommandLine}
use Rattle.command_words.specs.Options.{least_of, greatest_of, no_settings, setting_of, with_setting, with_flag}

abbrev pub IsWithin : OptionName → Option ℕ → Type 0
IsWithin name None = Unit {0}
IsWithin name (Some v) = (least_of name ≤ v) × (v ≤ greatest_of name)

within-more : (command : Command) (s : Settings) (asked name : OptionName) (value : ℕ) (front : List (List ℕ)) → IsSetting command name value front → IsWithin asked (setting_of s asked) →
    IsWithin asked (setting_of (with_setting s name value) asked)
within-more command s Seed Seed value front h k = (h.at_least, h.at_most)
within-more command s Seed Bytes value front h k = k
within-more command s Seed Workers value front h k = k
within-more command s Seed Want value front h k = k
within-more command s Bytes Seed value front h k = k
within-more command s Bytes Bytes value front h k = (h.at_least, h.at_most)
within-more command s Bytes Workers value front h k = k
within-more command s Bytes Want value front h k = k
within-more command s Workers Seed value front h k = k
within-more command s Workers Bytes value front h k = k
within-more command s Workers Workers value front h k = (h.at_least, h.at_most)
within-more command s Workers Want value front h k = k
within-more command s Want Seed value front h k = k
within-more command s Want Bytes value front h k = k
within-more command s Want Workers value front h k = k
within-more command s Want Want value front h k = (h.at_least, h.at_most)

within-flag : (s : Settings) (asked : OptionName) (name : FlagName) → IsWithin asked (setting_of s asked) → IsWithin asked (setting_of (with_flag s name) asked)
within-flag s Seed Salvage k = k
within-flag s Bytes Salvage k = k
within-flag s Workers Salvage k = k
within-flag s Want Salvage k = k

within-settings : (command : Command) (s t : Settings) (asked : OptionName) (words : List (List ℕ)) → AreSettings command s words t → IsWithin asked (setting_of s asked) → IsWithin asked (setting_of t asked)
within-settings command s t asked words none k = k
within-settings command s t asked words (more name value fresh h rest) k = within-settings command (with_setting s name value) t asked _ rest (within-more command s asked name value _ h k)
within-settings command s t asked words (flag name fresh allowed built rest) k = within-settings command (with_flag s name) t asked _ rest (within-flag s asked name k)

within-or : (name : OptionName) (o : Option ℕ) (v : ℕ) → IsWithin name (Some v) → IsWithin name o → IsWithin name (Some (unwrap_or o v))
within-or name None v d k = d
within-or name (Some x) v d k = k

pub few-bytes : (texts : List (List ℕ)) (w : Words) → IsCommandLine texts w → w.bytes ≤ MOST_TRIAL_BYTES
few-bytes texts w h =
    let k : IsWithin Bytes (setting_of h.settings Bytes) = within-settings w.command no_settings h.settings Bytes h.options h.are_settings tt in
    subst (λ (n : ℕ). n ≤ MOST_TRIAL_BYTES) (sym h.bytes) (within-or Bytes (setting_of h.settings Bytes) 1000 (omega arith, omega arith) k).1

pub few-wanted : (texts : List (List ℕ)) (w : Words) → IsCommandLine texts w → w.want ≤ MOST_WANTED
few-wanted texts w h =
    let k : IsWithin Want (setting_of h.settings Want) = within-settings w.command no_settings h.settings Want h.options h.are_settings tt in
    subst (λ (n : ℕ). n ≤ MOST_WANTED) (sym h.want) (within-or Want (setting_of h.settings Want) 1 (omega arith, omega arith) k).1
