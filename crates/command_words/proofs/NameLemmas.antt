-- The words that name commands and options
use Rattle.std.proofs.Common.{◌≡◌, ℕ, ◌<◌, ◌⊎◌, inl, inr, Bool, true, false, eqb, List, ◌∷◌, ◌++◌, length, get_or, Option, Some, None, refl, arith, sym, ap, ◌∙◌, codes, if◌then◌else◌, append_assoc}
use Rattle.std.proofs.lemmas.Grind.{common_steps}
use Rattle.std.proofs.lemmas.Bool.Decides.{nat_tests}
use Rattle.std.proofs.lemmas.Slice.Eq.{bytes_eq-Decides}
use Rattle.std.proofs.lemmas.List.Sums.{split_at_first, passes_at_first}
use Rattle.std.specs.Str.{bytes_eq}
use Rattle.std.specs.List.{position_or_len}
use Rattle.command_words.specs.declared.words.Command.{Command}
use Rattle.command_words.specs.declared.words.Command.TheVariants.{Member, Points, Params, Bound, Check, Encode, Decode, Votes, Trial, Erase, Design}
use Rattle.command_words.specs.declared.words.OptionName.{OptionName}
use Rattle.command_words.specs.declared.words.OptionName.TheVariants.{Seed, Bytes, Workers, Want}
use Rattle.command_words.specs.declared.words.FlagName.{FlagName}
use Rattle.command_words.specs.declared.words.FlagName.TheVariants.{Salvage}
use Rattle.command_words.specs.Options.{command_word, option_word, flag_word}
use Rattle.command_words.specs.Reading.{command_named, option_named, flag_named, is_flag_word, has_equals, name_part, value_part}

pub text_eq : (xs ys : List ℕ) → bytes_eq xs ys ≡ true → xs ≡ ys
text_eq xs ys h = grind (arith, common_steps, bytes_eq-Decides xs ys)

pub choose : {A : Type 0} (b : Bool) (d c : A) (rest : Option A) → (if b then Some d else rest) ≡ Some c → ((b ≡ true) × (d ≡ c)) ⊎ (rest ≡ Some c)
choose true d c rest e = inl (refl, cc)
choose false d c rest e = inr e

pub command_named-word : (c : Command) → command_named (command_word c) ≡ Some c
unfolding command_named
command_named-word Member = refl
command_named-word Points = refl
command_named-word Params = refl
command_named-word Bound = refl
command_named-word Check = refl
command_named-word Encode = refl
command_named-word Decode = refl
command_named-word Votes = refl
command_named-word Trial = refl
command_named-word Erase = refl
command_named-word Design = refl

-- a chain of tests: the first word, or one of the rest
one_command : (word : List ℕ) (d c : Command) (rest : Option Command) → (if bytes_eq word (command_word d) then Some d else rest) ≡ Some c →
    (rest ≡ Some c → word ≡ command_word c) → word ≡ command_word c
one_command word d c rest e f =
    elim (choose (bytes_eq word (command_word d)) d c rest e) [
      | inl h ↦ text_eq word (command_word d) h.0 ∙ ap command_word h.1
      | inr e ↦ f e
    ]

pub command_named-is : (word : List ℕ) (c : Command) → command_named word ≡ Some c → word ≡ command_word c
unfolding command_named
command_named-is word c e =
    one_command word Member c _ e (λ e.
    one_command word Points c _ e (λ e.
    one_command word Params c _ e (λ e.
    one_command word Bound c _ e (λ e.
    one_command word Check c _ e (λ e.
    one_command word Encode c _ e (λ e.
    one_command word Decode c _ e (λ e.
    one_command word Votes c _ e (λ e.
    one_command word Trial c _ e (λ e.
    one_command word Erase c _ e (λ e.
    one_command word Design c None e (λ e.
    absurd (let k : ⊥ = cc in k))))))))))))

pub option_named-word : (n : OptionName) → option_named (option_word n) ≡ Some n
unfolding option_named
option_named-word Seed = refl
option_named-word Bytes = refl
option_named-word Workers = refl
option_named-word Want = refl

one_option : (word : List ℕ) (d n : OptionName) (rest : Option OptionName) → (if bytes_eq word (option_word d) then Some d else rest) ≡ Some n →
    (rest ≡ Some n → word ≡ option_word n) → word ≡ option_word n
one_option word d n rest e f =
    elim (choose (bytes_eq word (option_word d)) d n rest e) [
      | inl h ↦ text_eq word (option_word d) h.0 ∙ ap option_word h.1
      | inr e ↦ f e
    ]

pub option_named-is : (word : List ℕ) (n : OptionName) → option_named word ≡ Some n → word ≡ option_word n
unfolding option_named
option_named-is word n e =
    one_option word Seed n _ e (λ e.
    one_option word Bytes n _ e (λ e.
    one_option word Workers n _ e (λ e.
    one_option word Want n None e (λ e.
    absurd (let k : ⊥ = cc in k)))))

pub flag_named-word : (n : FlagName) → flag_named (flag_word n) ≡ Some n
unfolding flag_named
flag_named-word Salvage = refl

pub flag_named-is : (word : List ℕ) (n : FlagName) → flag_named word ≡ Some n → word ≡ flag_word n
unfolding flag_named
flag_named-is word n e =
    elim (choose (bytes_eq word (flag_word Salvage)) Salvage n None e) [
      | inl h ↦ text_eq word (flag_word Salvage) h.0 ∙ ap flag_word h.1
      | inr e ↦ absurd (let k : ⊥ = cc in k)
    ]

-- the word of a flag is one, and that of an option with a value is not
pub is_flag_word-flag : (n : FlagName) → is_flag_word (flag_word n) ≡ true
unfolding flag_named
is_flag_word-flag Salvage = refl

pub is_flag_word-option : (n : OptionName) → is_flag_word (option_word n) ≡ false
unfolding flag_named
is_flag_word-option Seed = refl
is_flag_word-option Bytes = refl
is_flag_word-option Workers = refl
is_flag_word-option Want = refl

-- an option's word has no `=`, and one with `=` and digits behind it has its parts
pub has_equals-word : (n : OptionName) → has_equals (option_word n) ≡ false
has_equals-word Seed = refl
has_equals-word Bytes = refl
has_equals-word Workers = refl
has_equals-word Want = refl

pub has_equals-flag : (n : FlagName) → has_equals (flag_word n) ≡ false
has_equals-flag Salvage = refl

pub has_equals-joined : (n : OptionName) (digits : List ℕ) → has_equals (option_word n ++ codes "=" ++ digits) ≡ true
has_equals-joined Seed digits = grind (arith, common_steps, nat_tests)
has_equals-joined Bytes digits = grind (arith, common_steps, nat_tests)
has_equals-joined Workers digits = grind (arith, common_steps, nat_tests)
has_equals-joined Want digits = grind (arith, common_steps, nat_tests)

pub name_part-joined : (n : OptionName) (digits : List ℕ) → name_part (option_word n ++ codes "=" ++ digits) ≡ option_word n
name_part-joined Seed digits = refl
name_part-joined Bytes digits = refl
name_part-joined Workers digits = refl
name_part-joined Want digits = refl

pub value_part-joined : (n : OptionName) (digits : List ℕ) → value_part (option_word n ++ codes "=" ++ digits) ≡ digits
value_part-joined Seed digits = refl
value_part-joined Bytes digits = refl
value_part-joined Workers digits = refl
value_part-joined Want digits = refl

-- a word with `=` is its parts
pub joined-parts : (word : List ℕ) → has_equals word ≡ true → word ≡ name_part word ++ codes "=" ++ value_part word
joined-parts word h =
    let l : position_or_len (λ b. eqb b 61) word < length word = grind (arith, common_steps, nat_tests) in
    let t : eqb (get_or word (position_or_len (λ b. eqb b 61) word) 0) 61 ≡ true = passes_at_first (λ b. eqb b 61) word 0 l in
    let e : get_or word (position_or_len (λ b. eqb b 61) word) 0 ≡ 61 = grind (arith, common_steps, nat_tests) in
    split_at_first (λ b. eqb b 61) word 0 l
    ∙ ap (λ (x : ℕ). name_part word ++ (x ∷ value_part word)) e
    ∙ sym (append_assoc (name_part word) (codes "=") (value_part word))
