-- how `read_number` reads, and that it reads the digits of a number as that number
use Rattle.std.proofs.Common.{◌≡◌, ℕ, zero, suc, ◌+◌, ◌-◌, ◌*◌, ◌^◌, ◌<◌, ◌≤◌, ◌⊎◌, inl, inr, true, false, List, [], ◌∷◌, length, take, get_or, arith, refl, ap, sym, ◌∙◌, add-one}
use Rattle.std.specs.Char.{is_ascii_digit, digit_value}
use Rattle.std.specs.Prelude.{not, ◌&&◌, ◌||◌, nat_eq, nat_lt, if◌then◌else◌, Some, None}
use Rattle.std.specs.Fmt.{decimal}
use Rattle.ag_texts.specs.Numbers.{is_number, number_in}
use Rattle.std.specs.Str.{all_ascii_digits}
use Rattle.std.specs.Str.Parse.{digits_value}
use Rattle.std.proofs.lemmas.Int.Digits.{digits_value_more}
use Rattle.std.proofs.lemmas.Str.Parse.{IsNumeralModel, numerals_by_value, tells_all_ascii_digits, digits_value_short}
use Rattle.std.proofs.lemmas.Bool.Decides.{nat_tests}
use Rattle.std.proofs.lemmas.Bool.{and_parts, and_from, and_right, ltb-true, lt-ltb, cases_Bool}
use Rattle.std.proofs.lemmas.Fmt.{decimal_nonempty, length-decimal-le, length-decimal-le_succ, digits_decimal, digits_value-decimal, decimal-digits_value, first_decimal}
use Rattle.std.proofs.lemmas.Str.{digit_value_digit}
use Rattle.std.proofs.lemmas.List.{length-take, take_all}

own : IsNumeralModel (λ ds. all_ascii_digits ds ≡ true) (digits_value 10)
own = numerals_by_value _ tells_all_ascii_digits

-- the first i bytes are digits, and write the value
pub record IsReading (value i : ℕ) (digits : List ℕ) : Type 0 where
  pub value_is : value ≡ digits_value 10 (take i digits)
  pub digits_are : all_ascii_digits (take i digits) ≡ true

digit_from_test : (c : ℕ) → is_ascii_digit c ≡ true → (48 ≤ c) × (c ≤ 57)
digit_from_test c here = grind (arith, nat_tests)

all_ascii_digits-take : (i : ℕ) (digits : List ℕ) → i < length digits → all_ascii_digits (take i digits) ≡ true → is_ascii_digit (get_or digits i 0) ≡ true →
    all_ascii_digits (take (suc i) digits) ≡ true
all_ascii_digits-take i [] within before here = absurd (omega arith)
all_ascii_digits-take zero (d ∷ ds) within before here = rw here refl
all_ascii_digits-take (suc i) (d ∷ ds) within before here =
    let parts = and_parts (is_ascii_digit d) (all_ascii_digits (take i ds)) before in
    and_from _ _ parts.0 (all_ascii_digits-take i ds (omega arith) parts.1 here)

-- a byte that is no digit
no_digits : (i : ℕ) (digits : List ℕ) → i < length digits → is_ascii_digit (get_or digits i 0) ≡ false → all_ascii_digits digits ≡ false
no_digits i [] within here = absurd (omega arith)
no_digits zero (d ∷ ds) within here = rw here refl
no_digits (suc i) (d ∷ ds) within here = and_right _ _ (no_digits i ds (omega arith) here)

pub reading_step : (value i : ℕ) (digits : List ℕ) → i < length digits → IsReading value i digits → is_ascii_digit (get_or digits i 0) ≡ true →
    IsReading (value * 10 + (get_or digits i 0 - 48)) (i + 1) digits
reading_step value i digits within r here =
    let range = digit_from_test (get_or digits i 0) here in
    let digit : digit_value (get_or digits i 0) + 48 ≡ get_or digits i 0 = digit_value_digit (get_or digits i 0) range in
    record {
      value_is = omega (arith, digit, r.value_is, digits_value_more 10 digits i within);
      digits_are = rw (add-one i) (all_ascii_digits-take i digits within r.digits_are here);
    }

pub reading_fits : (value i : ℕ) (digits : List ℕ) → i < length digits → length digits < 20 → IsReading value i digits → is_ascii_digit (get_or digits i 0) ≡ true →
    value * 10 + (get_or digits i 0 - 48) < 2 ^ 64
reading_fits value i digits within short r here =
    let next = reading_step value i digits within r here in
    let few : length (take (i + 1) digits) ≤ 19 = omega (arith, length-take (i + 1) digits) in
    let below : digits_value 10 (take (i + 1) digits) < 10 ^ 19 = digits_value_short own (take (i + 1) digits) 19 next.digits_are few in
    omega (arith, next.value_is)

pub reading_ends : (value i : ℕ) (digits : List ℕ) → length digits ≤ i → IsReading value i digits →
    Some value ≡ (if all_ascii_digits digits then Some (digits_value 10 digits) else None)
reading_ends value i digits past r =
    let all : take i digits ≡ digits = take_all i digits past in
    let test : all_ascii_digits digits ≡ true = ap all_ascii_digits (sym all) ∙ r.digits_are in
    rw test (ap Some (r.value_is ∙ ap (digits_value 10) all))

pub reading_refused : (i : ℕ) (digits : List ℕ) → i < length digits → is_ascii_digit (get_or digits i 0) ≡ false →
    None ≡ (if all_ascii_digits digits then Some (digits_value 10 digits) else None)
reading_refused i digits within here = rw (no_digits i digits within here) refl

-- a text that is read as a number: digits, at least one and at most nineteen, and the first is 0 only where it is alone
pub record IsNumberText (text : List ℕ) : Type 0 where
  pub digits : all_ascii_digits text ≡ true
  pub some : 0 < length text
  pub few : length text < 20
  pub first : get_or text 0 0 ≡ 48 → length text ≡ 1

alone_from_test : (len first : ℕ) → (nat_eq len 1 || not (nat_eq first 48)) ≡ true → first ≡ 48 → len ≡ 1
alone_from_test len first test zero_first = grind (arith, nat_tests)

test_from_alone : (len first : ℕ) → (first ≡ 48 → len ≡ 1) → (nat_eq len 1 || not (nat_eq first 48)) ≡ true
test_from_alone len first alone = grind (arith, nat_tests)

pub number_text_from_test : (text : List ℕ) → is_number text ≡ true → IsNumberText text
number_text_from_test text test =
    let a = and_parts (all_ascii_digits text && nat_lt 0 (length text) && nat_lt (length text) 20) (nat_eq (length text) 1 || not (nat_eq (get_or text 0 0) 48)) test in
    let b = and_parts (all_ascii_digits text && nat_lt 0 (length text)) (nat_lt (length text) 20) a.0 in
    let d = and_parts (all_ascii_digits text) (nat_lt 0 (length text)) b.0 in
    record { digits = d.0; some = ltb-true 0 (length text) d.1; few = ltb-true (length text) 20 b.1; first = alone_from_test (length text) (get_or text 0 0) a.1 }

pub test_from_number_text : (text : List ℕ) → IsNumberText text → is_number text ≡ true
test_from_number_text text t =
    and_from _ _ (and_from _ _ (and_from _ _ t.digits (lt-ltb 0 (length text) t.some)) (lt-ltb (length text) 20 t.few)) (test_from_alone (length text) (get_or text 0 0) t.first)

pub number_in_text : (text : List ℕ) → IsNumberText text → number_in text ≡ Some (digits_value 10 text)
number_in_text text t = rw (test_from_number_text text t) refl

pub number_in_other : (text : List ℕ) → is_number text ≡ false → number_in text ≡ None
number_in_other text other = rw other refl

alone_if_zero_first : (n : ℕ) → n < 2 ^ 64 → get_or (decimal n) 0 0 ≡ 48 → length (decimal n) ≡ 1
alone_if_zero_first zero fits zero_first = omega (arith, length-decimal-le_succ 0 fits, decimal_nonempty 0 fits)
alone_if_zero_first (suc n) fits zero_first = absurd (omega (arith, first_decimal (suc n) (omega arith) fits))

pub number_read_back : (n : ℕ) → n < 10 ^ 19 → number_in (decimal n) ≡ Some n
number_read_back n small =
    let fits : n < 2 ^ 64 = omega arith in
    let text : IsNumberText (decimal n) = record {
      digits = digits_decimal own n fits;
      some = decimal_nonempty n fits;
      few = omega (arith, length-decimal-le 19 n (omega arith) small fits);
      first = λ zero_first. alone_if_zero_first n fits zero_first;
    } in
    number_in_text (decimal n) text ∙ ap Some (digits_value-decimal own n fits)

pub read_is_written : (text : List ℕ) (n : ℕ) → number_in text ≡ Some n → (text ≡ decimal n) × (n < 10 ^ 19)
read_is_written text n read = cases (cases_Bool (is_number text))
  where
    written : IsNumberText text → (text ≡ decimal n) × (n < 10 ^ 19)
    written t =
        let few : length text ≤ 19 = omega (arith, t.few) in
        let below : digits_value 10 text < 10 ^ 19 = digits_value_short own text 19 t.digits few in
        let is_n : digits_value 10 text ≡ n = cc (number_in_text text t) in
        (sym (decimal-digits_value own text t.digits t.some t.first (omega arith)) ∙ ap decimal is_n, omega arith)

    cases : (is_number text ≡ true) ⊎ (is_number text ≡ false) → (text ≡ decimal n) × (n < 10 ^ 19)
    cases (inl test) = written (number_text_from_test text test)
    cases (inr test) = absurd (let none = number_in_other text test in cc)
