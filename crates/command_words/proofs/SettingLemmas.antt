-- Words that write settings
use Rattle.std.proofs.Common.{◌≡◌, ℕ, ◌≤◌, Bool, true, false, ◌&&◌, List, Option, Some, None, refl, arith, sym, if◌then◌else◌}
use Rattle.std.specs.Prelude.{is_none, not}
use Rattle.std.proofs.lemmas.Grind.{common_steps}
use Rattle.std.proofs.lemmas.Bool.{and_parts}
use Rattle.std.proofs.lemmas.Bool.Decides.{nat_tests}
use Rattle.command_words.specs.declared.words.Command.{Command}
use Rattle.command_words.specs.declared.words.OptionName.{OptionName}
use Rattle.command_words.specs.declared.words.FlagName.{FlagName}
use Rattle.command_words.specs.declared.words.Settings.{Settings}
use Rattle.command_words.specs.Numerals.{is_numeral, value_of}
use Rattle.command_words.specs.Built.{is_flag_built}
use Rattle.command_words.specs.Options.{option_word, flag_word, has_option, has_flag, least_of, greatest_of, setting_of, with_setting, flag_of, with_flag, number_in, value_in}
use Rattle.command_words.specs.Reading.{option_named, flag_named, with_value, added_to, added, flagged, flagged_by}
use Rattle.command_words.proofs.NameLemmas.{option_named-word, option_named-is, flag_named-is}

-- what a numeral in range says
pub record IsNumberIn (least greatest : ℕ) (text : List ℕ) (v : ℕ) : Type 0 where
  pub numeral : is_numeral text ≡ true
  pub value : v ≡ value_of text
  pub at_least : least ≤ v
  pub at_most : v ≤ greatest

pub number_in-gives : (least greatest : ℕ) (text : List ℕ) (v : ℕ) → number_in least greatest text ≡ Some v → IsNumberIn least greatest text v
unfolding number_in
number_in-gives least greatest text v e = record {
  numeral = grind (arith, common_steps, nat_tests);
  value = grind (arith, common_steps, nat_tests);
  at_least = grind (arith, common_steps, nat_tests);
  at_most = grind (arith, common_steps, nat_tests);
}

pub number_in-from : (least greatest : ℕ) (text : List ℕ) (v : ℕ) → IsNumberIn least greatest text v → number_in least greatest text ≡ Some v
unfolding number_in
number_in-from least greatest text v h =
    let a : is_numeral text ≡ true = h.numeral in
    let b : v ≡ value_of text = h.value in
    let c : least ≤ v = h.at_least in
    let d : v ≤ greatest = h.at_most in
    grind (arith, common_steps, nat_tests)

-- what is added
pub record Adds (command : Command) (s : Settings) (word text : List ℕ) (t : Settings) : Type 0 where
  pub name : OptionName
  pub value : ℕ
  pub word_is : word ≡ option_word name
  pub allowed : has_option command name ≡ true
  pub fresh : setting_of s name ≡ None
  pub number : IsNumberIn (least_of name) (greatest_of name) text value
  pub settings : t ≡ with_setting s name value

is_none-is : {A : Type 0} (o : Option A) → is_none o ≡ true → o ≡ None
is_none-is None e = refl
is_none-is (Some x) e = absurd (let k : ⊥ = cc in k)

with_value-gives : (s t : Settings) (name : OptionName) (o : Option ℕ) → with_value s name o ≡ Some t → (v : ℕ) × (o ≡ Some v) × (t ≡ with_setting s name v)
with_value-gives s t name None e = absurd (let k : ⊥ = cc in k)
with_value-gives s t name (Some v) e = (v, refl, (let k : with_setting s name v ≡ t = cc in sym k))

by_test : {A : Type 0} (b : Bool) (o : Option A) (t : A) → (if b then o else None) ≡ Some t → (b ≡ true) × (o ≡ Some t)
by_test true o t e = (refl, e)
by_test false o t e = absurd (let k : ⊥ = cc in k)

added_to-gives : (command : Command) (s : Settings) (o : Option OptionName) (word text : List ℕ) (t : Settings) →
    option_named word ≡ o → added_to command s o text ≡ Some t → Adds command s word text t
added_to-gives command s None word text t n e = absurd (let k : ⊥ = cc in k)
added_to-gives command s (Some name) word text t n e =
    let both : ((has_option command name && is_none (setting_of s name)) ≡ true) × (with_value s name (value_in name text) ≡ Some t) =
    by_test (has_option command name && is_none (setting_of s name)) (with_value s name (value_in name text)) t e in
    let parts : (has_option command name ≡ true) × (is_none (setting_of s name) ≡ true) = and_parts _ _ both.0 in
    let found : (v : ℕ) × (value_in name text ≡ Some v) × (t ≡ with_setting s name v) = with_value-gives s t name (value_in name text) both.1 in
    record {
      name = name;
      value = found.0;
      word_is = option_named-is word name n;
      allowed = parts.0;
      fresh = is_none-is (setting_of s name) parts.1;
      number = number_in-gives (least_of name) (greatest_of name) text found.0 found.1;
      settings = found.2;
    }

pub added-gives : (command : Command) (s : Settings) (word text : List ℕ) (t : Settings) → added command s word text ≡ Some t → Adds command s word text t
unfolding added
added-gives command s word text t e = added_to-gives command s (option_named word) word text t refl e

pub added-from : (command : Command) (s : Settings) (name : OptionName) (value : ℕ) (text : List ℕ) → has_option command name ≡ true →
    setting_of s name ≡ None → IsNumberIn (least_of name) (greatest_of name) text value → added command s (option_word name) text ≡ Some (with_setting s name value)
unfolding added
added-from command s name value text h f n =
    rw (option_named-word name) (rw h (rw f (rw (number_in-from (least_of name) (greatest_of name) text value n) refl)))

-- what a flag adds
pub record Flags (command : Command) (s : Settings) (word : List ℕ) (t : Settings) : Type 0 where
  pub name : FlagName
  pub word_is : word ≡ flag_word name
  pub allowed : has_flag command name ≡ true
  pub built : is_flag_built name ≡ true
  pub fresh : flag_of s name ≡ false
  pub settings : t ≡ with_flag s name

not-true : (b : Bool) → not b ≡ true → b ≡ false
not-true true e = absurd (let k : ⊥ = cc in k)
not-true false e = refl

pub flagged_by-gives : (command : Command) (s : Settings) (o : Option FlagName) (word : List ℕ) (t : Settings) → flag_named word ≡ o → flagged_by command s o ≡ Some t →
    Flags command s word t
flagged_by-gives command s None word t n e = absurd (let k : ⊥ = cc in k)
flagged_by-gives command s (Some name) word t n e =
    let both : (((has_flag command name && is_flag_built name) && not (flag_of s name)) ≡ true) × (Some (with_flag s name) ≡ Some t) =
    by_test ((has_flag command name && is_flag_built name) && not (flag_of s name)) (Some (with_flag s name)) t e in
    let parts : ((has_flag command name && is_flag_built name) ≡ true) × (not (flag_of s name) ≡ true) = and_parts _ _ both.0 in
    let had : (has_flag command name ≡ true) × (is_flag_built name ≡ true) = and_parts _ _ parts.0 in
    record {
      name = name;
      word_is = flag_named-is word name n;
      allowed = had.0;
      built = had.1;
      fresh = not-true (flag_of s name) parts.1;
      settings = (let k : with_flag s name ≡ t = (let m : Some (with_flag s name) ≡ Some t = both.1 in cc) in sym k);
    }

pub flagged-from : (command : Command) (s : Settings) (name : FlagName) → has_flag command name ≡ true → is_flag_built name ≡ true → flag_of s name ≡ false →
    flagged command s name ≡ Some (with_flag s name)
flagged-from command s name h b f = rw h (rw b (rw f refl))
