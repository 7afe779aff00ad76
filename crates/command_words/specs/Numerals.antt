-- is_digit      whether a byte is an ASCII digit
-- value_from    the number that these digits write behind digits that write a first number
-- value_of      the number that ASCII digits write, highest first
-- is_numeral    whether a text is one to twenty ASCII digits
use Rattle.std.specs.Prelude.{ℕ, ◌+◌, ◌-◌, ◌*◌, List, [], ◌∷◌, length, Bool, ◌&&◌, nat_le}
use Rattle.std.specs.List.{list_all}

abbrev pub is_digit : ℕ → Bool
is_digit byte = nat_le 48 byte && nat_le byte 57

abbrev pub value_from : ℕ → List ℕ → ℕ
value_from before [] = before
value_from before (digit ∷ digits) = value_from (before * 10 + (digit - 48)) digits

abbrev pub value_of : List ℕ → ℕ
value_of digits = value_from 0 digits

unfoldable pub is_numeral : List ℕ → Bool
is_numeral text = (nat_le 1 (length text) && nat_le (length text) 20) && list_all is_digit text
