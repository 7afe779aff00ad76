-- Command lines: the settings that are found are those that the words write, and no others
use Rattle.std.proofs.Common.{◌≡◌, ℕ, inl, inr, Bool, true, false, List, [], ◌∷◌, ◌++◌, Option, Some, None, refl, arith, sym, ap, subst, ◌∙◌, codes, if◌then◌else◌, ◌≤◌, ◌<◌, ◌-◌, length, map, take, drop, get_or, suc}
use Rattle.std.proofs.Math.Seq.{drop-cons}
use Rattle.std.proofs.lemmas.List.{take_all, drop_all, take-append-drop, map-append}
use Rattle.std.specs.Str.{bytes_eq}
use Rattle.std.specs.Prelude.{option_and_then, is_some}
use Rattle.std.proofs.lemmas.Grind.{common_steps}
use Rattle.std.proofs.lemmas.Bool.{cases_Bool}
use Rattle.command_words.specs.declared.words.Command.{Command}
use Rattle.command_words.specs.declared.words.OptionName.{OptionName}
use Rattle.command_words.specs.declared.words.Settings.{Settings}
use Rattle.command_words.specs.declared.words.FlagName.{FlagName}
use Rattle.command_words.specs.declared.words.Words.{Words}
use Rattle.command_words.specs.Built.{is_built, is_flag_built}
use Rattle.command_words.specs.Options.{command_word, option_word, flag_word, has_option, has_flag, no_settings, setting_of, with_setting, least_of, greatest_of, flag_of, with_flag}
use Rattle.command_words.specs.Laws.{CommandLinesAreRead}
use Rattle.command_words.specs.Reading.{command_named, flag_named, has_equals, is_flag_word, name_part, value_part, added, flagged, flagged_by, settings_in, words_of, is_path}
use Rattle.command_words.specs.Lines.{IsSetting, AreSettings, none, more, flag, IsCommandLine, IsPath}
use Rattle.command_words.proofs.NameLemmas.{command_named-word, command_named-is, flag_named-word, is_flag_word-flag, is_flag_word-option, has_equals-word, has_equals-flag, has_equals-joined, name_part-joined, value_part-joined, joined-parts}
use Rattle.command_words.proofs.SettingLemmas.{IsNumberIn, Adds, added-gives, added-from, Flags, flagged_by-gives, flagged-from}

and_then-gives : {A B : Type 0} (f : A → Option B) (o : Option A) (t : B) → option_and_then f o ≡ Some t → (s : A) × (o ≡ Some s) × (f s ≡ Some t)
and_then-gives f None t e = absurd (let k : ⊥ = cc in k)
and_then-gives f (Some s) t e = (s, refl, e)

-- one word that writes an option
joined-setting : (command : Command) (s t : Settings) (word : List ℕ) → has_equals word ≡ true → (a : Adds command s (name_part word) (value_part word) t) → IsSetting command a.name a.value (word ∷ [])
joined-setting command s t word h a = record {
  allowed = a.allowed;
  digits = value_part word;
  numeral = a.number.numeral;
  value_is = a.number.value;
  at_least = a.number.at_least;
  at_most = a.number.at_most;
  written = inl (ap (λ (w : List ℕ). w ∷ []) (joined-parts word h ∙ ap (λ (w : List ℕ). w ++ codes "=" ++ value_part word) a.word_is));
}

-- two words that write an option
apart-setting : (command : Command) (s t : Settings) (word text : List ℕ) → (a : Adds command s word text t) → IsSetting command a.name a.value (word ∷ text ∷ [])
apart-setting command s t word text a = record {
  allowed = a.allowed;
  digits = text;
  numeral = a.number.numeral;
  value_is = a.number.value;
  at_least = a.number.at_least;
  at_most = a.number.at_most;
  written = inr (ap (λ (w : List ℕ). w ∷ text ∷ []) a.word_is);
}

one_more : (command : Command) (s t u : Settings) (word text : List ℕ) (front rest : List (List ℕ)) → (a : Adds command s word text t) → IsSetting command a.name a.value front →
    AreSettings command t rest u → AreSettings command s (front ++ rest) u
one_more command s t u word text front rest a h r =
    more a.name a.value a.fresh h (subst (λ (v : Settings). AreSettings command v rest u) a.settings r)

joined-step : (command : Command) (s t u : Settings) (word : List ℕ) (rest : List (List ℕ)) → has_equals word ≡ true → added command s (name_part word) (value_part word) ≡ Some t →
    AreSettings command t rest u → AreSettings command s (word ∷ rest) u
joined-step command s t u word rest h e r =
    let a : Adds command s (name_part word) (value_part word) t = added-gives command s (name_part word) (value_part word) t e in
    one_more command s t u (name_part word) (value_part word) (word ∷ []) rest a (joined-setting command s t word h a) r

apart-step : (command : Command) (s t u : Settings) (word text : List ℕ) (rest : List (List ℕ)) → added command s word text ≡ Some t →
    AreSettings command t rest u → AreSettings command s (word ∷ text ∷ rest) u
apart-step command s t u word text rest e r =
    let a : Adds command s word text t = added-gives command s word text t e in
    one_more command s t u word text (word ∷ text ∷ []) rest a (apart-setting command s t word text a) r

flag-step : (command : Command) (s t u : Settings) (word : List ℕ) (rest : List (List ℕ)) → flagged_by command s (flag_named word) ≡ Some t →
    AreSettings command t rest u → AreSettings command s (word ∷ rest) u
flag-step command s t u word rest e r =
    let a : Flags command s word t = flagged_by-gives command s (flag_named word) word t refl e in
    subst (λ (w : List ℕ). AreSettings command s (w ∷ rest) u) (sym a.word_is)
    (flag a.name a.fresh a.allowed a.built (subst (λ (v : Settings). AreSettings command v rest u) a.settings r))

if_true : {A : Type 0} (b : Bool) (x y : A) → b ≡ true → (if b then x else y) ≡ x
if_true true x y e = refl
if_true false x y e = absurd (let k : ⊥ = cc in k)

if_false : {A : Type 0} (b : Bool) (x y : A) → b ≡ false → (if b then x else y) ≡ y
if_false true x y e = absurd (let k : ⊥ = cc in k)
if_false false x y e = refl

-- the settings that are found are written
pub settings_in-gives : (command : Command) (s u : Settings) (words : List (List ℕ)) → settings_in command s words ≡ Some u → AreSettings command s words u
settings_in-gives command s u [] e = (let k : s ≡ u = cc in subst (λ (v : Settings). AreSettings command s [] v) k none)
settings_in-gives command s u (word ∷ []) e =
    elim (cases_Bool (has_equals word)) [
      | inl h ↦ joined-step command s u u word [] h (sym (if_true (has_equals word) _ _ h) ∙ e) none
      | inr h ↦
          elim (cases_Bool (is_flag_word word)) [
            | inl g ↦ flag-step command s u u word [] (sym (if_true (is_flag_word word) _ _ g) ∙ sym (if_false (has_equals word) _ _ h) ∙ e) none
            | inr g ↦ absurd (let d : None ≡ Some u = sym (if_false (is_flag_word word) _ _ g) ∙ sym (if_false (has_equals word) _ _ h) ∙ e in let k : ⊥ = cc in k)
          ]
    ]
settings_in-gives command s u (word ∷ text ∷ rest) e =
    elim (cases_Bool (has_equals word)) [
      | inl h ↦
          let f : (t : Settings) × (added command s (name_part word) (value_part word) ≡ Some t) × (settings_in command t (text ∷ rest) ≡ Some u) =
          and_then-gives (λ t. settings_in command t (text ∷ rest)) (added command s (name_part word) (value_part word)) u (sym (if_true (has_equals word) _ _ h) ∙ e) in
          joined-step command s f.0 u word (text ∷ rest) h f.1 (settings_in-gives command f.0 u (text ∷ rest) f.2)
      | inr h ↦
          elim (cases_Bool (is_flag_word word)) [
            | inl g ↦
                let f : (t : Settings) × (flagged_by command s (flag_named word) ≡ Some t) × (settings_in command t (text ∷ rest) ≡ Some u) =
                and_then-gives (λ t. settings_in command t (text ∷ rest)) (flagged_by command s (flag_named word)) u
                (sym (if_true (is_flag_word word) _ _ g) ∙ sym (if_false (has_equals word) _ _ h) ∙ e) in
                flag-step command s f.0 u word (text ∷ rest) f.1 (settings_in-gives command f.0 u (text ∷ rest) f.2)
            | inr g ↦
                let f : (t : Settings) × (added command s word text ≡ Some t) × (settings_in command t rest ≡ Some u) =
                and_then-gives (λ t. settings_in command t rest) (added command s word text) u
                (sym (if_false (is_flag_word word) _ _ g) ∙ sym (if_false (has_equals word) _ _ h) ∙ e) in
                apart-step command s f.0 u word text rest f.1 (settings_in-gives command f.0 u rest f.2)
          ]
    ]

number_of : (command : Command) (name : OptionName) (value : ℕ) (front : List (List ℕ)) → (h : IsSetting command name value front) → IsNumberIn (least_of name) (greatest_of name) h.digits value
number_of command name value front h = record { numeral = h.numeral; value = h.value_is; at_least = h.at_least; at_most = h.at_most }

joined-found : (command : Command) (s u : Settings) (name : OptionName) (value : ℕ) (digits : List ℕ) (rest : List (List ℕ)) → has_option command name ≡ true →
    setting_of s name ≡ None →
    IsNumberIn (least_of name) (greatest_of name) digits value → settings_in command (with_setting s name value) rest ≡ Some u →
    settings_in command s ((option_word name ++ codes "=" ++ digits) ∷ rest) ≡ Some u
joined-found command s u name value digits [] a f n e =
    if_true (has_equals (option_word name ++ codes "=" ++ digits)) _ _ (has_equals-joined name digits)
    ∙ ap (λ (w : List ℕ). added command s w (value_part (option_word name ++ codes "=" ++ digits))) (name_part-joined name digits)
    ∙ ap (λ (w : List ℕ). added command s (option_word name) w) (value_part-joined name digits)
    ∙ added-from command s name value digits a f n ∙ e
joined-found command s u name value digits (next ∷ rest) a f n e =
    if_true (has_equals (option_word name ++ codes "=" ++ digits)) _ _ (has_equals-joined name digits)
    ∙ ap (λ (w : List ℕ). option_and_then (λ t. settings_in command t (next ∷ rest)) (added command s w (value_part (option_word name ++ codes "=" ++ digits)))) (name_part-joined name digits)
    ∙ ap (λ (w : List ℕ). option_and_then (λ t. settings_in command t (next ∷ rest)) (added command s (option_word name) w)) (value_part-joined name digits)
    ∙ ap (λ (o : Option Settings). option_and_then (λ t. settings_in command t (next ∷ rest)) o) (added-from command s name value digits a f n) ∙ e

apart-found : (command : Command) (s u : Settings) (name : OptionName) (value : ℕ) (digits : List ℕ) (rest : List (List ℕ)) → has_option command name ≡ true →
    setting_of s name ≡ None →
    IsNumberIn (least_of name) (greatest_of name) digits value → settings_in command (with_setting s name value) rest ≡ Some u →
    settings_in command s (option_word name ∷ digits ∷ rest) ≡ Some u
apart-found command s u name value digits rest a f n e =
    if_false (has_equals (option_word name)) _ _ (has_equals-word name)
    ∙ if_false (is_flag_word (option_word name)) _ _ (is_flag_word-option name)
    ∙ ap (λ (o : Option Settings). option_and_then (λ t. settings_in command t rest) o) (added-from command s name value digits a f n) ∙ e

flag-found : (command : Command) (s u : Settings) (name : FlagName) (rest : List (List ℕ)) → has_flag command name ≡ true → is_flag_built name ≡ true → flag_of s name ≡ false →
    settings_in command (with_flag s name) rest ≡ Some u → settings_in command s (flag_word name ∷ rest) ≡ Some u
flag-found command s u name [] a b f e =
    if_false (has_equals (flag_word name)) _ _ (has_equals-flag name)
    ∙ if_true (is_flag_word (flag_word name)) _ _ (is_flag_word-flag name)
    ∙ ap (λ (o : Option FlagName). flagged_by command s o) (flag_named-word name)
    ∙ flagged-from command s name a b f ∙ e
flag-found command s u name (next ∷ rest) a b f e =
    if_false (has_equals (flag_word name)) _ _ (has_equals-flag name)
    ∙ if_true (is_flag_word (flag_word name)) _ _ (is_flag_word-flag name)
    ∙ ap (λ (o : Option FlagName). option_and_then (λ t. settings_in command t (next ∷ rest)) (flagged_by command s o)) (flag_named-word name)
    ∙ ap (λ (o : Option Settings). option_and_then (λ t. settings_in command t (next ∷ rest)) o) (flagged-from command s name a b f) ∙ e

-- settings that are written are found
pub settings_in-from : (command : Command) (s u : Settings) (words : List (List ℕ)) → AreSettings command s words u → settings_in command s words ≡ Some u
settings_in-from command s u words (none {s = v}) = refl
settings_in-from command s u words (more {front = front} {rest = rest} name value fresh h r) =
    let ih : settings_in command (with_setting s name value) rest ≡ Some u = settings_in-from command (with_setting s name value) u rest r in
    elim h.written [
      | inl w ↦ ap (λ (f : List (List ℕ)). settings_in command s (f ++ rest)) w ∙ joined-found command s u name value h.digits rest h.allowed fresh (number_of command name value front h) ih
      | inr w ↦ ap (λ (f : List (List ℕ)). settings_in command s (f ++ rest)) w ∙ apart-found command s u name value h.digits rest h.allowed fresh (number_of command name value front h) ih
    ]
settings_in-from command s u words (flag {rest = rest} name fresh allowed built r) =
    flag-found command s u name rest allowed built fresh (settings_in-from command (with_flag s name) u rest r)

last-same : (xs ys : List (List ℕ)) (x y : List ℕ) → xs ++ x ∷ [] ≡ ys ++ y ∷ [] → (xs ≡ ys) × (x ≡ y)
last-same [] [] x y e = (refl, cc)
last-same [] (b ∷ []) x y e = absurd (let k : ⊥ = cc in k)
last-same [] (b ∷ c ∷ ys) x y e = absurd (let k : ⊥ = cc in k)
last-same (a ∷ []) [] x y e = absurd (let k : ⊥ = cc in k)
last-same (a ∷ c ∷ xs) [] x y e = absurd (let k : ⊥ = cc in k)
last-same (a ∷ xs) (b ∷ ys) x y e =
    let h : a ≡ b = cc in
    let t : xs ++ x ∷ [] ≡ ys ++ y ∷ [] = cc in
    let r : (xs ≡ ys) × (x ≡ y) = last-same xs ys x y t in
    (let p : xs ≡ ys = r.0 in cc, r.1)

word-same : (c d : Command) → command_word c ≡ command_word d → c ≡ d
word-same c d e =
    let k : Some c ≡ Some d = sym (command_named-word c) ∙ ap command_named e ∙ command_named-word d in cc

-- words by their parts
abbrev words_from : Command → ℕ → ℕ → ℕ → Bool → ℕ → Words
words_from command seed bytes workers salvage want =
    record { command = command; seed = seed; bytes = bytes; workers = workers; salvage = salvage; want = want }

words_from-same : (c : Command) (a b : ℕ) (x y : ℕ) (m n : ℕ) (s t : Bool) (p q : ℕ) → a ≡ b → x ≡ y → m ≡ n → s ≡ t → p ≡ q →
    words_from c a x m s p ≡ words_from c b y n t q
words_from-same c a b x y m n s t p q e f g h k =
    ap (λ (v : ℕ). words_from c v x m s p) e ∙ ap (λ (v : ℕ). words_from c b v m s p) f ∙ ap (λ (v : ℕ). words_from c b y v s p) g
    ∙ ap (λ (v : Bool). words_from c b y n v p) h ∙ ap (λ (v : ℕ). words_from c b y n t v) k

-- a command line says the words of its settings
pub line-words : (texts : List (List ℕ)) (w : Words) → (h : IsCommandLine texts w) → w ≡ words_of w.command h.settings
line-words texts w h = words_from-same w.command _ _ _ _ _ _ _ _ _ _ h.seed h.bytes h.workers h.salvage h.want

-- two readings of one list of words say one thing
pub line-says : CommandLinesAreRead
line-says texts v w h k =
    let both : command_word v.command ∷ (h.options ++ h.path ∷ []) ≡ command_word w.command ∷ (k.options ++ k.path ∷ []) = sym h.shape ∙ k.shape in
    let c : v.command ≡ w.command = word-same v.command w.command (let z : command_word v.command ≡ command_word w.command = cc in z) in
    let o : (h.options ≡ k.options) × (h.path ≡ k.path) = last-same h.options k.options h.path k.path (let z : h.options ++ h.path ∷ [] ≡ k.options ++ k.path ∷ [] = cc in z) in
    let f : settings_in v.command no_settings h.options ≡ Some h.settings = settings_in-from v.command no_settings h.settings h.options h.are_settings in
    let g : settings_in w.command no_settings k.options ≡ Some k.settings = settings_in-from w.command no_settings k.settings k.options k.are_settings in
    let m : settings_in v.command no_settings h.options ≡ settings_in w.command no_settings k.options =
    ap (λ (x : Command). settings_in x no_settings h.options) c ∙ ap (λ (x : List (List ℕ)). settings_in w.command no_settings x) o.0 in
    let s : h.settings ≡ k.settings = (let z : Some h.settings ≡ Some k.settings = sym f ∙ m ∙ g in cc) in
    line-words texts v h ∙ ap (λ (x : Command). words_of x h.settings) c ∙ ap (λ (x : Settings). words_of w.command x) s ∙ sym (line-words texts w k)

-- a list by its first element and the rest
pub map-first : {S : Type 0} (f : S → List ℕ) (ws : List S) (w : S) → 1 ≤ length ws → w ≡ get_or ws 0 w → map f ws ≡ f w ∷ map f (take (length ws - 1) (drop 1 ws))
map-first f [] w l e = absurd (let k : ⊥ = omega (arith, l) in k)
map-first f (x ∷ xs) w l e =
    let t : take (length (x ∷ xs) - 1) xs ≡ xs = take_all (length (x ∷ xs) - 1) xs (omega arith) in
    ap (λ (y : List ℕ). y ∷ map f xs) (ap f (sym e)) ∙ ap (λ (ys : List _). f w ∷ map f ys) (sym t)

split_last : {S : Type 0} (zs : List S) (d : S) → 1 ≤ length zs → zs ≡ take (length zs - 1) zs ++ get_or zs (length zs - 1) d ∷ []
split_last zs d l =
    let n : length zs - 1 < length zs = omega arith in
    let e : suc (length zs - 1) ≡ length zs = omega arith in
    sym (take-append-drop (length zs - 1) zs)
    ∙ ap (λ (ys : List _). take (length zs - 1) zs ++ ys) (drop-cons zs (length zs - 1) d n
    ∙ ap (λ (ys : List _). get_or zs (length zs - 1) d ∷ ys) (drop_all (suc (length zs - 1)) zs (omega arith)))

-- a list by its first element, its last, and those between them
pub map-ends : {S : Type 0} (f : S → List ℕ) (ws : List S) (first last : S) → 2 ≤ length ws → first ≡ get_or ws 0 first → last ≡ get_or ws (length ws - 1) last →
    map f ws ≡ f first ∷ (map f (take (length ws - 1 - 1) (drop 1 ws)) ++ f last ∷ [])
map-ends f [] first last l e g = absurd (let k : ⊥ = omega (arith, l) in k)
map-ends f (x ∷ xs) first last l e g =
    let m : 1 ≤ length xs = omega (arith, l) in
    let i : length (x ∷ xs) - 1 ≡ suc (length xs - 1) = omega arith in
    let n : length (x ∷ xs) - 1 - 1 ≡ length xs - 1 = omega arith in
    let h : get_or xs (length xs - 1) last ≡ last = sym (g ∙ ap (λ (q : ℕ). get_or (x ∷ xs) q last) i) in
    ap (λ (y : List ℕ). y ∷ map f xs) (ap f (sym e))
    ∙ ap (λ (ys : List _). f first ∷ map f ys) (split_last xs last m ∙ ap (λ (y : _). take (length xs - 1) xs ++ y ∷ []) h ∙ ap (λ (q : ℕ). take q xs ++ last ∷ []) (sym n))
    ∙ ap (λ (ys : List (List ℕ)). f first ∷ ys) (map-append f (take (length (x ∷ xs) - 1 - 1) xs) (last ∷ []))

path-is : (path : List ℕ) → is_path path ≡ true → IsPath path
path-is path h e = absurd (let b : bytes_eq (take 1 path) (codes "-") ≡ true = rw e refl in let k : ⊥ = grind (arith, common_steps) in k)

pub line-some : (texts : List (List ℕ)) (first path : List ℕ) (options : List (List ℕ)) (c : Command) (s : Settings) → texts ≡ first ∷ (options ++ path ∷ []) →
    command_named first ≡ Some c → is_built c ≡ true → is_path path ≡ true → settings_in c no_settings options ≡ Some s → IsCommandLine texts (words_of c s)
line-some texts first path options c s e n b p g = record {
  built = b;
  options = options;
  path = path;
  settings = s;
  shape = e ∙ ap (λ (w : List ℕ). w ∷ (options ++ path ∷ [])) (command_named-is first c n);
  are_settings = settings_in-gives c no_settings s options g;
  is_path = path-is path p;
  seed = refl;
  bytes = refl;
  workers = refl;
  salvage = refl;
  want = refl;
}

parts_same : (first path path' : List ℕ) (command : Command) (options options' : List (List ℕ)) → first ∷ (options ++ path ∷ []) ≡ command_word command ∷ (options' ++ path' ∷ []) →
    (first ≡ command_word command) × (options ≡ options')
parts_same first path path' command options options' e =
    (let z : first ≡ command_word command = cc in z, (last-same options options' path path' (let z : options ++ path ∷ [] ≡ options' ++ path' ∷ [] = cc in z)).0)

pub line-no_command : (texts : List (List ℕ)) (first path : List ℕ) (options : List (List ℕ)) → texts ≡ first ∷ (options ++ path ∷ []) →
    None ≡ command_named first → (w : Words) → IsCommandLine texts w → ⊥
line-no_command texts first path options e n w h =
    let p : (first ≡ command_word w.command) × (options ≡ h.options) = parts_same first path h.path w.command options h.options (sym e ∙ h.shape) in
    let k : None ≡ Some w.command = n ∙ ap command_named p.0 ∙ command_named-word w.command in
    let z : ⊥ = cc in z

pub line-no_settings : (texts : List (List ℕ)) (first path : List ℕ) (options : List (List ℕ)) (c : Command) → texts ≡ first ∷ (options ++ path ∷ []) →
    command_named first ≡ Some c → None ≡ settings_in c no_settings options → (w : Words) → IsCommandLine texts w → ⊥
line-no_settings texts first path options c e n g w h =
    let p : (first ≡ command_word w.command) × (options ≡ h.options) = parts_same first path h.path w.command options h.options (sym e ∙ h.shape) in
    let d : Some c ≡ Some w.command = sym n ∙ ap command_named p.0 ∙ command_named-word w.command in
    let q : c ≡ w.command = cc in
    let f : settings_in w.command no_settings h.options ≡ Some h.settings = settings_in-from w.command no_settings h.settings h.options h.are_settings in
    let k : None ≡ Some h.settings = g ∙ ap (λ (x : Command). settings_in x no_settings options) q ∙ ap (λ (x : List (List ℕ)). settings_in w.command no_settings x) p.1 ∙ f in
    let z : ⊥ = cc in z

pub line-not_built : (texts : List (List ℕ)) (first path : List ℕ) (options : List (List ℕ)) (c : Command) → texts ≡ first ∷ (options ++ path ∷ []) →
    command_named first ≡ Some c → is_built c ≡ false → (w : Words) → IsCommandLine texts w → ⊥
line-not_built texts first path options c e n b w h =
    let p : (first ≡ command_word w.command) × (options ≡ h.options) = parts_same first path h.path w.command options h.options (sym e ∙ h.shape) in
    let d : Some c ≡ Some w.command = sym n ∙ ap command_named p.0 ∙ command_named-word w.command in
    let q : c ≡ w.command = cc in
    let k : false ≡ true = sym b ∙ ap is_built q ∙ h.built in
    let z : ⊥ = cc in z

pub settings-joined : (command : Command) (s t : Settings) (texts : List (List ℕ)) (word name value : List ℕ) (rest : List (List ℕ)) → texts ≡ word ∷ rest → has_equals word ≡ true →
    name ≡ name_part word → value ≡ value_part word → added command s name value ≡ Some t → settings_in command t rest ≡ settings_in command s texts
settings-joined command s t texts word name value [] e h n v a =
    sym (ap (λ (x : List (List ℕ)). settings_in command s x) e ∙ if_true (has_equals word) _ _ h ∙ ap (λ (x : List ℕ). added command s x (value_part word)) (sym n) ∙ ap (λ (x : List ℕ). added command s name x) (sym v) ∙ a)
settings-joined command s t texts word name value (next ∷ rest) e h n v a =
    sym (ap (λ (x : List (List ℕ)). settings_in command s x) e ∙ if_true (has_equals word) _ _ h
    ∙ ap (λ (x : List ℕ). option_and_then (λ u. settings_in command u (next ∷ rest)) (added command s x (value_part word))) (sym n)
    ∙ ap (λ (x : List ℕ). option_and_then (λ u. settings_in command u (next ∷ rest)) (added command s name x)) (sym v)
    ∙ ap (λ (o : Option Settings). option_and_then (λ u. settings_in command u (next ∷ rest)) o) a)

pub settings-flag : (command : Command) (s t : Settings) (texts : List (List ℕ)) (word : List ℕ) (name : FlagName) (rest : List (List ℕ)) → texts ≡ word ∷ rest →
    has_equals word ≡ false → flag_named word ≡ Some name → flagged command s name ≡ Some t → settings_in command t rest ≡ settings_in command s texts
settings-flag command s t texts word name [] e h n a =
    sym (ap (λ (x : List (List ℕ)). settings_in command s x) e ∙ if_false (has_equals word) _ _ h
    ∙ if_true (is_flag_word word) _ _ (ap is_some n)
    ∙ ap (λ (o : Option FlagName). flagged_by command s o) n ∙ a)
settings-flag command s t texts word name (next ∷ rest) e h n a =
    sym (ap (λ (x : List (List ℕ)). settings_in command s x) e ∙ if_false (has_equals word) _ _ h
    ∙ if_true (is_flag_word word) _ _ (ap is_some n)
    ∙ ap (λ (o : Option FlagName). option_and_then (λ u. settings_in command u (next ∷ rest)) (flagged_by command s o)) n
    ∙ ap (λ (o : Option Settings). option_and_then (λ u. settings_in command u (next ∷ rest)) o) a)

pub settings-apart : (command : Command) (s t : Settings) (texts : List (List ℕ)) (word text : List ℕ) (rest : List (List ℕ)) → texts ≡ word ∷ text ∷ rest → has_equals word ≡ false →
    flag_named word ≡ None → added command s word text ≡ Some t → settings_in command t rest ≡ settings_in command s texts
settings-apart command s t texts word text rest e h n a =
    sym (ap (λ (x : List (List ℕ)). settings_in command s x) e ∙ if_false (has_equals word) _ _ h
    ∙ if_false (is_flag_word word) _ _ (ap is_some n)
    ∙ ap (λ (o : Option Settings). option_and_then (λ u. settings_in command u rest) o) a)

-- the same over the words as they are held, by their texts
pub held-joined : {S : Type 0} (f : S → List ℕ) (command : Command) (s t : Settings) (ws : List S) (w : S) (word name value : List ℕ) → 1 ≤ length ws → w ≡ get_or ws 0 w → word ≡ f w →
    has_equals word ≡ true → name ≡ name_part word → value ≡ value_part word → added command s name value ≡ Some t →
    settings_in command t (map f (take (length ws - 1) (drop 1 ws))) ≡ settings_in command s (map f ws)
held-joined f command s t ws w word name value l e v h n p a =
    settings-joined command s t (map f ws) word name value (map f (take (length ws - 1) (drop 1 ws)))
    (map-first f ws w l e ∙ ap (λ (x : List ℕ). x ∷ map f (take (length ws - 1) (drop 1 ws))) (sym v)) h n p a

pub held-flag : {S : Type 0} (f : S → List ℕ) (command : Command) (s t : Settings) (ws : List S) (w : S) (word same : List ℕ) (name : FlagName) → 1 ≤ length ws → w ≡ get_or ws 0 w →
    word ≡ f w → same ≡ f w → has_equals word ≡ false → flag_named same ≡ Some name → flagged command s name ≡ Some t →
    settings_in command t (map f (take (length ws - 1) (drop 1 ws))) ≡ settings_in command s (map f ws)
held-flag f command s t ws w word same name l e v u h n a =
    settings-flag command s t (map f ws) word name (map f (take (length ws - 1) (drop 1 ws)))
    (map-first f ws w l e ∙ ap (λ (x : List ℕ). x ∷ map f (take (length ws - 1) (drop 1 ws))) (sym v)) h
    (ap flag_named (v ∙ sym u) ∙ n) a

pub held-apart : {S : Type 0} (f : S → List ℕ) (command : Command) (s t : Settings) (ws rest : List S) (w x : S) (word same again text : List ℕ) → 1 ≤ length ws → w ≡ get_or ws 0 w →
    word ≡ f w → same ≡ f w → again ≡ f w →
    rest ≡ take (length ws - 1) (drop 1 ws) → 1 ≤ length rest → x ≡ get_or rest 0 x → text ≡ f x → has_equals word ≡ false → flag_named again ≡ None → added command s same text ≡ Some t →
    settings_in command t (map f (take (length rest - 1) (drop 1 rest))) ≡ settings_in command s (map f ws)
held-apart f command s t ws rest w x word same again text l e v u o r m g q h n a =
    settings-apart command s t (map f ws) word text (map f (take (length rest - 1) (drop 1 rest)))
    (map-first f ws w l e ∙ ap (λ (y : List ℕ). y ∷ map f (take (length ws - 1) (drop 1 ws))) (sym v)
    ∙ ap (λ (ys : List _). word ∷ map f ys) (sym r)
    ∙ ap (λ (ys : List (List ℕ)). word ∷ ys) (map-first f rest x m g ∙ ap (λ (y : List ℕ). y ∷ map f (take (length rest - 1) (drop 1 rest))) (sym q)))
    h (ap flag_named (v ∙ sym o) ∙ n) (ap (λ (y : List ℕ). added command s y text) (v ∙ sym u) ∙ a)

-- the same over a whole line
pub held-some : {S : Type 0} (f : S → List ℕ) (ws : List S) (first last : S) (word path : List ℕ) (c : Command) (s : Settings) → 2 ≤ length ws → first ≡ get_or ws 0 first →
    last ≡ get_or ws (length ws - 1) last → word ≡ f first → path ≡ f last → command_named word ≡ Some c → is_built c ≡ true → is_path path ≡ true →
    settings_in c no_settings (map f (take (length ws - 1 - 1) (drop 1 ws))) ≡ Some s → IsCommandLine (map f ws) (words_of c s)
held-some f ws first last word path c s l e g v p n b h k =
    line-some (map f ws) word path (map f (take (length ws - 1 - 1) (drop 1 ws))) c s
    (map-ends f ws first last l e g ∙ ap (λ (x : List ℕ). x ∷ (map f (take (length ws - 1 - 1) (drop 1 ws)) ++ f last ∷ [])) (sym v)
    ∙ ap (λ (x : List ℕ). word ∷ (map f (take (length ws - 1 - 1) (drop 1 ws)) ++ x ∷ [])) (sym p)) n b h k

pub held-no_command : {S : Type 0} (f : S → List ℕ) (ws : List S) (first last : S) (word : List ℕ) → 2 ≤ length ws → first ≡ get_or ws 0 first →
    last ≡ get_or ws (length ws - 1) last → word ≡ f first → command_named word ≡ None → (w : Words) → IsCommandLine (map f ws) w → ⊥
held-no_command f ws first last word l e g v n w h =
    line-no_command (map f ws) word (f last) (map f (take (length ws - 1 - 1) (drop 1 ws)))
    (map-ends f ws first last l e g ∙ ap (λ (x : List ℕ). x ∷ (map f (take (length ws - 1 - 1) (drop 1 ws)) ++ f last ∷ [])) (sym v)) (sym n) w h

pub held-not_built : {S : Type 0} (f : S → List ℕ) (ws : List S) (first last : S) (word : List ℕ) (c : Command) → 2 ≤ length ws → first ≡ get_or ws 0 first →
    last ≡ get_or ws (length ws - 1) last → word ≡ f first → command_named word ≡ Some c → is_built c ≡ false → (w : Words) → IsCommandLine (map f ws) w → ⊥
held-not_built f ws first last word c l e g v n b w h =
    line-not_built (map f ws) word (f last) (map f (take (length ws - 1 - 1) (drop 1 ws))) c
    (map-ends f ws first last l e g ∙ ap (λ (x : List ℕ). x ∷ (map f (take (length ws - 1 - 1) (drop 1 ws)) ++ f last ∷ [])) (sym v)) n b w h

pub held-no_settings : {S : Type 0} (f : S → List ℕ) (ws : List S) (first last : S) (word : List ℕ) (c : Command) → 2 ≤ length ws → first ≡ get_or ws 0 first →
    last ≡ get_or ws (length ws - 1) last → word ≡ f first → command_named word ≡ Some c →
    settings_in c no_settings (map f (take (length ws - 1 - 1) (drop 1 ws))) ≡ None → (w : Words) → IsCommandLine (map f ws) w → ⊥
held-no_settings f ws first last word c l e g v n k w h =
    line-no_settings (map f ws) word (f last) (map f (take (length ws - 1 - 1) (drop 1 ws))) c
    (map-ends f ws first last l e g ∙ ap (λ (x : List ℕ). x ∷ (map f (take (length ws - 1 - 1) (drop 1 ws)) ++ f last ∷ [])) (sym v)) n (sym k) w h
