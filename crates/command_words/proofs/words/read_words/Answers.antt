use Rattle.std.proofs.Common.{◌∙◌, sym}
use Rattle.std.proofs.lemmas.Grind.{common_steps}
use Rattle.std.proofs.Common.{arith}
use Rattle.std.specs.String.{string_bytes}
use Rattle.command_words.proofs.LineLemmas.{held-some, held-no_command, held-not_built, held-no_settings}
use Rattle.command_words.proofs.Ranges.{few-bytes, few-wanted}
use Rattle.command_words.proofs.words.read_words.Goals as goal

pub returns-in_err-command-in-len2-up-clause-value : goal.returns-in_err-command-in-len2-up-clause-value
returns-in_err-command-in-len2-up-clause-value c =
    rw c.from_residual.ensures
    (held-no_command string_bytes _ _ _ _ c.in-len2-up.len_at_least c.first-item.is c.path-item.is c.as_str.ensures.value (sym c.command_named.ensures ∙ c.in_err-command-in-len2-up.was))

pub returns-then-not-is_command_built-clause-value : goal.returns-then-not-is_command_built-clause-value
returns-then-not-is_command_built-clause-value c =
    held-not_built string_bytes _ _ _ _ _ c.in-len2-up.len_at_least c.first-item.is c.path-item.is c.as_str.ensures.value
    (sym c.command_named.ensures ∙ c.in_ok-command-in-len2-up.was) (sym c.is_command_built.ensures ∙ c.if-not-is_command_built.true)

pub returns-in_err-settings-in-len2-up-clause-value : goal.returns-in_err-settings-in-len2-up-clause-value
returns-in_err-settings-in-len2-up-clause-value c =
    rw c.from_residual-in_err-settings-in-len2-up.ensures
    (held-no_settings string_bytes _ _ _ _ _ c.in-len2-up.len_at_least c.first-item.is c.path-item.is c.as_str.ensures.value
    (sym c.command_named.ensures ∙ c.in_ok-command-in-len2-up.was) (sym c.settings_in.ensures ∙ c.in_err-settings-in-len2-up.was))

pub returns-in_ok-settings-in-len2-up-clause-value : goal.returns-in_ok-settings-in-len2-up-clause-value
returns-in_ok-settings-in-len2-up-clause-value c =
    rw (c.unwrap_or.ensures, c.unwrap_or-in-len2-up.ensures, c.unwrap_or-in-len2-up-2.ensures, c.unwrap_or-in-len2-up-3.ensures)
    (held-some string_bytes _ _ _ _ c.as_str-in-len2-up.result.now _ _ c.in-len2-up.len_at_least c.first-item.is c.path-item.is c.as_str.ensures.value c.as_str-in-len2-up.ensures.value
    (sym c.command_named.ensures ∙ c.in_ok-command-in-len2-up.was) (grind (arith, common_steps, c.is_command_built.ensures, c.if-not-is_command_built.false))
    (grind (arith, common_steps, c.is_path.ensures, c.if-not-is_path.false)) (sym c.settings_in.ensures ∙ c.in_ok-settings-in-len2-up.was))

pub returns-in_ok-settings-in-len2-up-clause-few_bytes : goal.returns-in_ok-settings-in-len2-up-clause-few_bytes
returns-in_ok-settings-in-len2-up-clause-few_bytes c = few-bytes _ _ (returns-in_ok-settings-in-len2-up-clause-value c)

pub returns-in_ok-settings-in-len2-up-clause-few_wanted : goal.returns-in_ok-settings-in-len2-up-clause-few_wanted
returns-in_ok-settings-in-len2-up-clause-few_wanted c = few-wanted _ _ (returns-in_ok-settings-in-len2-up-clause-value c)
