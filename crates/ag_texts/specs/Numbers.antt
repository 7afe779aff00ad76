-- decimal n       the digits of n, without leading zeros: std's word for what `{}` writes
-- hex_of b        a byte as two lower-case hexadecimal digits
-- is_number t     t is `0`, or one to nineteen decimal digits of which the first is not `0`
-- number_in t     the number that such a text writes, and None of any other text
-- NumbersReadBack the digits of each number below 10^19 are read as that number
-- ReadsAreDigits  a text that is read as a number is just the digits of that number, which is below 10^19
use Rattle.std.specs.Prelude.{ℕ, ◌/◌, ◌%◌, ◌^◌, ◌<◌, ◌≡◌, Bool, false, not, ◌&&◌, ◌||◌, nat_eq, nat_lt, if◌then◌else◌, List, [], ◌∷◌, length, slice_index, Option, Some, None}
use Rattle.std.specs.Fmt.{decimal, digit_glyph}
use Rattle.std.specs.Str.{all_ascii_digits}
use Rattle.std.specs.Str.Parse.{digits_value}

abbrev pub hex_of : ℕ → List ℕ
hex_of b = digit_glyph false (b / 16) ∷ digit_glyph false (b % 16) ∷ []

abbrev pub is_number : List ℕ → Bool
is_number text = all_ascii_digits text && nat_lt 0 (length text) && nat_lt (length text) 20 && (nat_eq (length text) 1 || not (nat_eq (slice_index text 0) 48))

abbrev pub number_in : List ℕ → Option ℕ
number_in text = if is_number text then Some (digits_value 10 text) else None

abbrev pub NumbersReadBack : Type 0
NumbersReadBack = (n : ℕ) → n < 10 ^ 19 → number_in (decimal n) ≡ Some n

abbrev pub ReadsAreDigits : Type 0
ReadsAreDigits = (text : List ℕ) (n : ℕ) → number_in text ≡ Some n → (text ≡ decimal n) × (n < 10 ^ 19)
