-- ParityChecks       what contracts see of a `Parity`: the field, the number of positions, and the vectors of the checks
-- times_of           the product of the field
-- check_at           symbol p of vector i
-- column             the parity column of position p: the symbols of the vectors at p
-- column_from_end    the columns from the last position down
-- IsMessagePlace     the column at p is a combination of the columns at positions above p: p is no check position
-- is_message_place   whether it is
-- message_places     these positions, rising
-- IsInCode           a codeword: a list of n symbols that is orthogonal to each vector
-- IsWordOf           a codeword that has the message at the message places
use Rattle.std.specs.Prelude.{◌≡◌, ℕ, ◌-◌, ◌^◌, ◌<◌, Bool, List, [], length, filter, slice_index, slice_index_or}
use Rattle.std.specs.List.{range_with_len}
use Rattle.linear_theory.specs.Linear.{dot, in_span, IsCombination}
use Rattle.gf_theory.specs.Field.{gf_mul}
use Rattle.order_theory.specs.Basis.{IsWord}

pub record ParityChecks : Type 0 where
  pub bits : ℕ
  pub modulus : ℕ
  pub n : ℕ
  pub vectors : List (List ℕ)

abbrev pub times_of : ParityChecks → ℕ → ℕ → ℕ
times_of c = gf_mul c.bits c.modulus

abbrev pub check_at : ParityChecks → ℕ → ℕ → ℕ
check_at c i p = slice_index (slice_index_or c.vectors i []) p

abbrev pub column : ParityChecks → ℕ → ℕ → ℕ
column c p i = check_at c i p

-- so the first n - 1 - p of them are the columns at positions above p
abbrev pub column_from_end : ParityChecks → ℕ → ℕ → ℕ
column_from_end c q = column c (c.n - 1 - q)

pub record IsMessagePlace (c : ParityChecks) (p : ℕ) : Type 0 where
  pub position : p < c.n
  pub depends : IsCombination (times_of c) (length c.vectors) (column_from_end c) (c.n - 1 - p) (column c p)

unfoldable pub is_message_place : ParityChecks → ℕ → Bool
is_message_place c p = in_span (2 ^ c.bits) (times_of c) (length c.vectors) (column_from_end c) (c.n - 1 - p) (column c p)

abbrev pub message_places : ParityChecks → List ℕ
message_places c = filter (is_message_place c) (range_with_len 0 c.n)

pub record IsInCode (c : ParityChecks) (x : List ℕ) : Type 0 where
  pub is_word : IsWord c.bits c.n x
  pub orthogonal : (i : ℕ) → i < length c.vectors → dot (times_of c) c.n (slice_index x) (check_at c i) ≡ 0

pub record IsWordOf (c : ParityChecks) (msg x : List ℕ) : Type 0 where
  pub in_code : IsInCode c x
  pub carries : (i : ℕ) → i < length (message_places c) → slice_index x (slice_index (message_places c) i) ≡ slice_index msg i
