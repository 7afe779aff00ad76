-- checks_in      the checks that a `Parity` stores
-- unit_at        symbol p of the codeword of message number i, whose only symbol is a 1
-- IsPrepared     the parts of a `Parity` fit together
use Rattle.std.specs.Prelude.{◌≡◌, ℕ, ◌+◌, ◌-◌, ◌<◌, ◌≤◌, cond, nat_lt, length, slice_index}
use Rattle.field_theory.specs.Sums.{unit}
use Rattle.linear_theory.specs.Linear.{dot}
use Rattle.gf_linear.specs.Matrix.{entry, IsOver}
use Rattle.block_theory.specs.Checks.{ParityChecks, times_of, check_at, message_places}
use Rattle.block_theory.specs.Laws.{AreChecks}
use Rattle.parity_space.specs.declared.Parity.TheInside.{Inside}

abbrev pub checks_in : Inside → ParityChecks
checks_in s = record { bits = s.bits; modulus = s.modulus; n = s.n; vectors = s.vectors.rows }

-- below `first` all positions are message places, and the words' other symbols are stored
abbrev pub unit_at : Inside → ℕ → ℕ → ℕ
unit_at s i p = cond (nat_lt p s.first) (unit i p) (entry s.tails i (p - s.first))

pub record IsPrepared (s : Inside) : Type 0 where
  pub checks : AreChecks (checks_in s)
  pub width : s.vectors.cols ≡ s.n
  pub symbols : IsOver s.bits s.vectors
  pub places : s.places.items ≡ message_places (checks_in s)
  pub first_few : s.first ≤ length s.places.items
  pub first_are : (p : ℕ) → p < s.first → slice_index s.places.items p ≡ p
  pub tail_rows : length s.tails.rows ≡ length s.places.items
  pub tail_width : s.first + s.tails.cols ≡ s.n
  pub tail_symbols : IsOver s.bits s.tails
  pub orthogonal : (i q : ℕ) → i < length s.places.items → q < length s.vectors.rows → dot (times_of (checks_in s)) s.n (unit_at s i) (check_at (checks_in s) q) ≡ 0
  pub units : (i j : ℕ) → i < length s.places.items → j < length s.places.items → unit_at s i (slice_index s.places.items j) ≡ unit i j
