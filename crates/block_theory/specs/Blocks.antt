-- is_in_code      whether a list of n symbols is orthogonal to each vector
-- codewords       the lists of n symbols that are
-- has_message     whether a list has the message at the message places
-- word_of         the codeword that has the message at the message places, or else zeros
-- near_of         the codeword at distance at most t from n stored symbols, or none
-- form_of         a code as coded files see it, in groups of one codeword, in layout bytes
use Rattle.std.specs.Prelude.{false, ℕ, ◌^◌, Bool, nat_eq, List, length, filter, find, replicate, Option, slice_index}
use Rattle.std.specs.Option.{unwrap_or}
use Rattle.field_theory.specs.Sums.{all_below}
use Rattle.linear_theory.specs.Linear.{dot}
use Rattle.stored_form.specs.Form.{Form}
use Rattle.stored_form.specs.Search.{all_lists, first_within}
use Rattle.block_theory.specs.Checks.{ParityChecks, times_of, check_at, message_places}

unfoldable pub is_in_code : ParityChecks → List ℕ → Bool
is_in_code c x = all_below (length c.vectors) (λ i. nat_eq (dot (times_of c) c.n (slice_index x) (check_at c i)) 0)

unfoldable pub codewords : ParityChecks → List (List ℕ)
codewords c = filter (is_in_code c) (all_lists (2 ^ c.bits) c.n)

unfoldable pub has_message : ParityChecks → List ℕ → List ℕ → Bool
has_message c msg x = all_below (length (message_places c)) (λ i. nat_eq (slice_index x (slice_index (message_places c) i)) (slice_index msg i))

-- there is one for each message, so that the zeros stand for no message alone
unfoldable pub word_of : ParityChecks → List ℕ → List ℕ
word_of c msg = unwrap_or (find (has_message c msg) (codewords c)) (replicate c.n 0)

-- stored symbols are compared whole, not by their low bits
unfoldable pub near_of : ParityChecks → ℕ → List ℕ → Option (List ℕ)
near_of c t y = first_within t (codewords c) y

abbrev pub form_of : ParityChecks → ℕ → Form
form_of c t = record {
  n = c.n;
  k = length (message_places c);
  bits = c.bits;
  depth = 1;
  packed = false;
  radius = t;
  places = message_places c;
  word = word_of c;
  near = near_of c t;
}
