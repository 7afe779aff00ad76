-- The steps of the damage of a codeword and of a group, and what damage changes
use Rattle.std.proofs.Common.{◌≡◌, ℕ, suc, ◌+◌, ◌-◌, ◌<◌, ◌≤◌, ltb, List, [], ◌∷◌, ◌++◌, length, get_or, take, drop, refl, sym, ap, ◌∙◌, subst, arith, bit_xor, append_assoc, append-nil, drop-cons, add-one, drop_of_length-le}
use Rattle.std.proofs.Math.ListN.{set}
use Rattle.std.proofs.lemmas.Bool.{cond-true, cond-false, lt-ltb, le-ltb}
use Rattle.std.proofs.lemmas.List.{take_more, take_more_set, take_all, drop-set-lt, length-drop}
use Rattle.rand_pcg.specs.Lcg.{Lcg}
use Rattle.ag_trial.specs.Words.{drawn, after_draw}
use Rattle.ag_trial.specs.Damage.{damaged_from, damaged, damaged_words, changes_in}

-- ---- one byte

-- what the byte x becomes
abbrev pub changed_byte : (size x : ℕ) → Lcg → ℕ
changed_byte size x g = bit_xor x (1 + drawn (size - 1) g)

pub from_changed : (size left x : ℕ) (xs : List ℕ) (g : Lcg) → drawn (suc (length xs)) g < left →
    damaged_from size left (x ∷ xs) g ≡ (changed_byte size x (after_draw g) ∷ (damaged_from size (left - 1) xs (after_draw (after_draw g))).0, (damaged_from size (left - 1) xs (after_draw (after_draw g))).1)
from_changed size left x xs g l = cond-true (ltb (drawn (suc (length xs)) g) left) _ _ (lt-ltb (drawn (suc (length xs)) g) left l)

pub from_same : (size left x : ℕ) (xs : List ℕ) (g : Lcg) → left ≤ drawn (suc (length xs)) g →
    damaged_from size left (x ∷ xs) g ≡ (x ∷ (damaged_from size left xs (after_draw g)).0, (damaged_from size left xs (after_draw g)).1)
from_same size left x xs g l = cond-false (ltb (drawn (suc (length xs)) g) left) _ _ (le-ltb (drawn (suc (length xs)) g) left l)

-- ---- the loop over a codeword

-- the first p bytes are as F says, and the others and the generator come to what F says
pub record IsDamagedTo (size : ℕ) (F : List ℕ × Lcg) (word : List ℕ) (p left : ℕ) (g : Lcg) : Type 0 where
  pub bytes : take p word ++ (damaged_from size left (drop p word) g).0 ≡ F.0
  pub rest : (damaged_from size left (drop p word) g).1 ≡ F.1

drop_here : (word : List ℕ) (p : ℕ) → p < length word → drop p word ≡ get_or word p 0 ∷ drop (p + 1) word
drop_here word p l = drop-cons word p 0 l ∙ ap (λ k. get_or word p 0 ∷ drop k word) (sym (add-one p))

rest_count : (word : List ℕ) (p : ℕ) → p < length word → suc (length (drop (p + 1) word)) ≡ length word - p
rest_count word p l = omega (arith, length-drop (p + 1) word)

at_changed : (size left : ℕ) (word : List ℕ) (p : ℕ) (g : Lcg) → p < length word → drawn (length word - p) g < left →
    damaged_from size left (drop p word) g
    ≡ (changed_byte size (get_or word p 0) (after_draw g) ∷ (damaged_from size (left - 1) (drop (p + 1) word) (after_draw (after_draw g))).0, (damaged_from size (left - 1) (drop (p + 1) word) (after_draw (after_draw g))).1)
at_changed size left word p g l low =
    ap (λ xs. damaged_from size left xs g) (drop_here word p l)
    ∙ from_changed size left (get_or word p 0) (drop (p + 1) word) g (subst (λ (n : ℕ). drawn n g < left) (sym (rest_count word p l)) low)

at_same : (size left : ℕ) (word : List ℕ) (p : ℕ) (g : Lcg) → p < length word → left ≤ drawn (length word - p) g →
    damaged_from size left (drop p word) g
    ≡ (get_or word p 0 ∷ (damaged_from size left (drop (p + 1) word) (after_draw g)).0, (damaged_from size left (drop (p + 1) word) (after_draw g)).1)
at_same size left word p g l high =
    ap (λ xs. damaged_from size left xs g) (drop_here word p l)
    ∙ from_same size left (get_or word p 0) (drop (p + 1) word) g (subst (λ (n : ℕ). left ≤ drawn n g) (sym (rest_count word p l)) high)

pub damaged-start : (size t : ℕ) (word : List ℕ) (g : Lcg) → IsDamagedTo size (damaged size t word g) word 0 (drawn (t + 1) g) (after_draw g)
damaged-start size t word g = record { bytes = refl; rest = refl }

pub damaged-changed : (size : ℕ) (F : List ℕ × Lcg) (word : List ℕ) (p left : ℕ) (g : Lcg) → p < length word → drawn (length word - p) g < left →
    IsDamagedTo size F word p left g → IsDamagedTo size F (set word p (changed_byte size (get_or word p 0) (after_draw g))) (p + 1) (left - 1) (after_draw (after_draw g))
damaged-changed size F word p left g l low so =
    let v : ℕ = changed_byte size (get_or word p 0) (after_draw g) in
    let e = at_changed size left word p g l low in
    let past : drop (p + 1) (set word p v) ≡ drop (p + 1) word = drop-set-lt (p + 1) word p v (omega arith) in
    record {
      bytes =
          ap (λ xs. take (p + 1) (set word p v) ++ (damaged_from size (left - 1) xs (after_draw (after_draw g))).0) past
          ∙ ap (λ xs. xs ++ (damaged_from size (left - 1) (drop (p + 1) word) (after_draw (after_draw g))).0) (take_more_set word p v l)
          ∙ append_assoc (take p word) (v ∷ []) (damaged_from size (left - 1) (drop (p + 1) word) (after_draw (after_draw g))).0
          ∙ ap (λ (d : List ℕ × Lcg). take p word ++ d.0) (sym e) ∙ so.bytes;
      rest =
          ap (λ xs. (damaged_from size (left - 1) xs (after_draw (after_draw g))).1) past
          ∙ ap (λ (d : List ℕ × Lcg). d.1) (sym e) ∙ so.rest;
    }

pub damaged-same : (size : ℕ) (F : List ℕ × Lcg) (word : List ℕ) (p left : ℕ) (g : Lcg) → p < length word → left ≤ drawn (length word - p) g →
    IsDamagedTo size F word p left g → IsDamagedTo size F word (p + 1) left (after_draw g)
damaged-same size F word p left g l high so =
    let e = at_same size left word p g l high in
    record {
      bytes =
          ap (λ xs. xs ++ (damaged_from size left (drop (p + 1) word) (after_draw g)).0) (take_more word p 0 l)
          ∙ append_assoc (take p word) (get_or word p 0 ∷ []) (damaged_from size left (drop (p + 1) word) (after_draw g)).0
          ∙ ap (λ (d : List ℕ × Lcg). take p word ++ d.0) (sym e) ∙ so.bytes;
      rest = ap (λ (d : List ℕ × Lcg). d.1) (sym e) ∙ so.rest;
    }

pub damaged-end : (size : ℕ) (F : List ℕ × Lcg) (word : List ℕ) (p left : ℕ) (g : Lcg) → length word ≤ p → IsDamagedTo size F word p left g → (word ≡ F.0) × (g ≡ F.1)
damaged-end size F word p left g l so =
    let none : drop p word ≡ [] = drop_of_length-le word l in
    let front : take p word ≡ word = take_all p word l in (
      sym (append-nil word) ∙ ap (λ xs. xs ++ []) (sym front) ∙ ap (λ xs. take p word ++ (damaged_from size left xs g).0) (sym none) ∙ so.bytes,
      ap (λ xs. (damaged_from size left xs g).1) (sym none) ∙ so.rest,
    )

-- ---- the loop over a group

pub record AreDamagedTo (size t : ℕ) (F : List (List ℕ) × Lcg) (old words : List (List ℕ)) (c : ℕ) (g : Lcg) : Type 0 where
  pub done : take c words ++ (damaged_words size t (drop c old) g).0 ≡ F.0
  pub rest : (damaged_words size t (drop c old) g).1 ≡ F.1
  pub untouched : drop c words ≡ drop c old

word_here : (old : List (List ℕ)) (c : ℕ) (d : List ℕ) → c < length old → drop c old ≡ get_or old c d ∷ drop (c + 1) old
word_here old c d l = drop-cons old c d l ∙ ap (λ k. get_or old c d ∷ drop k old) (sym (add-one c))

pub words-start : (size t : ℕ) (words : List (List ℕ)) (g : Lcg) → AreDamagedTo size t (damaged_words size t words g) words words 0 g
words-start size t words g = record { done = refl; rest = refl; untouched = refl }

pub words-more : (size t : ℕ) (F : List (List ℕ) × Lcg) (old words : List (List ℕ)) (c : ℕ) (g : Lcg) → c < length old → c < length words →
    AreDamagedTo size t F old words c g →
    AreDamagedTo size t F old (set words c (damaged size t (get_or old c []) g).0) (c + 1) (damaged size t (get_or old c []) g).1
words-more size t F old words c g lo lw so =
    let here : List ℕ × Lcg = damaged size t (get_or old c []) g in
    let e : damaged_words size t (drop c old) g ≡ (here.0 ∷ (damaged_words size t (drop (c + 1) old) here.1).0, (damaged_words size t (drop (c + 1) old) here.1).1) =
    ap (λ ws. damaged_words size t ws g) (word_here old c [] lo) in
    record {
      done =
          ap (λ ws. ws ++ (damaged_words size t (drop (c + 1) old) here.1).0) (take_more_set words c here.0 lw)
          ∙ append_assoc (take c words) (here.0 ∷ []) (damaged_words size t (drop (c + 1) old) here.1).0
          ∙ ap (λ (d : List (List ℕ) × Lcg). take c words ++ d.0) (sym e) ∙ so.done;
      rest = ap (λ (d : List (List ℕ) × Lcg). d.1) (sym e) ∙ so.rest;
      untouched = drop-set-lt (c + 1) words c here.0 (omega arith) ∙ drop_more words old c lw lo so.untouched;
    }
  where
    drop_more : (words old : List (List ℕ)) (c : ℕ) → c < length words → c < length old → drop c words ≡ drop c old → drop (c + 1) words ≡ drop (c + 1) old
    drop_more words old c lw lo same = let s = sym (word_here words c [] lw) ∙ same ∙ word_here old c [] lo in cc

pub words-end : (size t : ℕ) (F : List (List ℕ) × Lcg) (old words : List (List ℕ)) (c : ℕ) (g : Lcg) → length old ≤ c → length words ≤ c →
    AreDamagedTo size t F old words c g → (words ≡ F.0) × (g ≡ F.1)
words-end size t F old words c g lo lw so =
    let none : drop c old ≡ [] = drop_of_length-le old lo in
    let front : take c words ≡ words = take_all c words lw in (
      sym (append-nil words) ∙ ap (λ ws. ws ++ []) (sym front) ∙ ap (λ ws. take c words ++ (damaged_words size t ws g).0) (sym none) ∙ so.done,
      ap (λ ws. (damaged_words size t ws g).1) (sym none) ∙ so.rest,
    )

-- the word before the damage stands untouched
pub word-untouched : (size t : ℕ) (F : List (List ℕ) × Lcg) (old words : List (List ℕ)) (c : ℕ) (g : Lcg) → c < length old → c < length words →
    AreDamagedTo size t F old words c g → get_or words c [] ≡ get_or old c []
word-untouched size t F old words c g lo lw so =
    let s = sym (word_here words c [] lw) ∙ so.untouched ∙ word_here old c [] lo in cc

pub changes-more : (size t : ℕ) (old : List (List ℕ)) (c : ℕ) (g : Lcg) → c < length old →
    changes_in size t (drop c old) g ≡ drawn (t + 1) g + changes_in size t (drop (c + 1) old) (damaged size t (get_or old c []) g).1
changes-more size t old c g l = ap (λ ws. changes_in size t ws g) (word_here old c [] l)

pub changes-end : (size t : ℕ) (old : List (List ℕ)) (c : ℕ) (g : Lcg) → length old ≤ c → changes_in size t (drop c old) g ≡ 0
changes-end size t old c g l = ap (λ ws. changes_in size t ws g) (drop_of_length-le old l)
