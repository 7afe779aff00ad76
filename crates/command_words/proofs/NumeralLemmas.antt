-- What a numeral that is read from the left is worth
use Rattle.std.proofs.Common.{◌≡◌, ℕ, suc, ◌+◌, ◌-◌, ◌*◌, ◌<◌, ◌≤◌, ◌⊎◌, inl, inr, true, false, List, [], ◌∷◌, length, drop, get_or, Some, None, refl, arith, sym, ap}
use Rattle.std.proofs.lemmas.Grind.{common_steps}
use Rattle.std.proofs.lemmas.Bool.Decides.{nat_tests}
use Rattle.std.specs.List.{list_all}
use Rattle.std.proofs.lemmas.List.Folds.{list_all_at}
use Rattle.std.proofs.Math.Seq.{drop-cons}
use Rattle.command_words.specs.Numerals.{is_digit, value_from, value_of, is_numeral}
use Rattle.command_words.specs.Options.{number_in}

pub value_from-most : (before : ℕ) (digits : List ℕ) → before ≤ value_from before digits
value_from-most before [] = omega arith
value_from-most before (d ∷ ds) = let h : before * 10 + (d - 48) ≤ value_from (before * 10 + (d - 48)) ds = value_from-most (before * 10 + (d - 48)) ds in omega arith

pub number_in-no_numeral : (least greatest : ℕ) (text : List ℕ) → is_numeral text ≡ false → None ≡ number_in least greatest text
unfolding number_in
number_in-no_numeral least greatest text h = rw h refl

pub number_in-out : (least greatest : ℕ) (text : List ℕ) → (value_of text < least) ⊎ (greatest < value_of text) → None ≡ number_in least greatest text
unfolding number_in
number_in-out least greatest text (inl h) = grind (arith, common_steps, nat_tests)
number_in-out least greatest text (inr h) = grind (arith, common_steps, nat_tests)

pub number_in-is : (least greatest : ℕ) (text : List ℕ) → is_numeral text ≡ true → least ≤ value_of text → value_of text ≤ greatest → Some (value_of text) ≡ number_in least greatest text
unfolding number_in
number_in-is least greatest text h l m = grind (arith, common_steps, nat_tests)

pub is_numeral-length : (text : List ℕ) → (length text ≡ 0) ⊎ (20 < length text) → is_numeral text ≡ false
unfolding is_numeral
is_numeral-length text (inl h) = grind (arith, common_steps, nat_tests)
is_numeral-length text (inr h) = grind (arith, common_steps, nat_tests)

pub is_numeral-digit : (text : List ℕ) (i : ℕ) → i < length text → (get_or text i 0 < 48) ⊎ (57 < get_or text i 0) → is_numeral text ≡ false
unfolding is_numeral
is_numeral-digit text i l (inl h) =
    let d : is_digit (get_or text i 0) ≡ false = grind (arith, common_steps, nat_tests) in
    let e : list_all is_digit text ≡ false = list_all_at is_digit text i 0 l d in
    grind (arith, common_steps, nat_tests)
is_numeral-digit text i l (inr h) =
    let d : is_digit (get_or text i 0) ≡ false = grind (arith, common_steps, nat_tests) in
    let e : list_all is_digit text ≡ false = list_all_at is_digit text i 0 l d in
    grind (arith, common_steps, nat_tests)

pub is_numeral-is : (text : List ℕ) → 0 < length text → length text ≤ 20 → list_all is_digit text ≡ true → is_numeral text ≡ true
unfolding is_numeral
is_numeral-is text l m h = grind (arith, common_steps, nat_tests)

-- one more digit
pub value_from-step : (value i : ℕ) (text : List ℕ) → i < length text →
    value_from (value * 10 + (get_or text i 0 - 48)) (drop (i + 1) text) ≡ value_from value (drop i text)
value_from-step value i text l = let e : i + 1 ≡ suc i = omega arith in rw e (ap (λ (ds : List ℕ). value_from value ds) (sym (drop-cons text i 0 l)))

-- a value that no longer fits is above the greatest
pub number_in-overflow : (least greatest value i : ℕ) (text : List ℕ) → i < length text → value_from value (drop i text) ≡ value_of text →
    greatest < value * 10 + (get_or text i 0 - 48) → None ≡ number_in least greatest text
number_in-overflow least greatest value i text l h m =
    let s : value_from (value * 10 + (get_or text i 0 - 48)) (drop (i + 1) text) ≡ value_from value (drop i text) = value_from-step value i text l in
    let w : value * 10 + (get_or text i 0 - 48) ≤ value_from (value * 10 + (get_or text i 0 - 48)) (drop (i + 1) text) = value_from-most (value * 10 + (get_or text i 0 - 48)) (drop (i + 1) text) in
    number_in-out least greatest text (inr (omega arith))
