use Rattle.std.proofs.Common.{◌∙◌, sym, refl}
use Rattle.std.specs.String.{string_bytes}
use Rattle.command_words.proofs.LineLemmas.{held-joined, held-flag, held-apart}
use Rattle.command_words.proofs.words.+settings_in.Goals as goal

pub returns-in_ok-added-in-Some : goal.returns-in_ok-added-in-Some
returns-in_ok-added-in-Some t c =
    c.settings_in.ensures
    ∙ held-joined string_bytes _ _ _ _ _ _ _ _ c.in-len1-up.len_at_least c.word-item.is c.as_str.ensures.value
    c.in-Some.ensures.0 c.in-Some.ensures.1 c.in-Some.ensures.2 (sym c.added.ensures ∙ c.in_ok-added-in-Some.was)

pub returns-in_ok-flagged-in-Some-flag_named : goal.returns-in_ok-flagged-in-Some-flag_named
returns-in_ok-flagged-in-Some-flag_named t c =
    c.settings_in-in-Some-flag_named.ensures
    ∙ held-flag string_bytes _ _ _ _ _ _ _ _ c.in-len1-up.len_at_least c.word-item.is c.as_str.ensures.value c.as_str-in-None.ensures.value
    c.in-None.ensures (sym c.flag_named.ensures ∙ c.in-Some-flag_named.is) (sym c.flagged.ensures ∙ c.in_ok-flagged-in-Some-flag_named.was)

pub returns-in_ok-added-in-len1-up-rest : goal.returns-in_ok-added-in-len1-up-rest
returns-in_ok-added-in-len1-up-rest t c =
    c.settings_in-in-len1-up-rest.ensures
    ∙ held-apart string_bytes _ _ _ _ _ _ _ _ _ _ _ c.in-len1-up.len_at_least c.word-item.is c.as_str.ensures.value c.as_str-in-len1-up-rest.ensures.value
    c.as_str-in-None.ensures.value
    refl c.in-len1-up-rest.len_at_least c.text-item.is c.as_str-in-len1-up-rest-2.ensures.value
    c.in-None.ensures (sym c.flag_named.ensures ∙ c.in-None-flag_named.is) (sym c.added-in-len1-up-rest.ensures ∙ c.in_ok-added-in-len1-up-rest.was)
