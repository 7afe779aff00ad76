-- looked_up    what two tables of 16 give for a byte: the entry at its low four bits in the first, plus the entry at its high
--              four bits in the second
-- IsTwice      32 lanes are a table of 16 and the same table again
use Rattle.std.specs.Prelude.{◌≡◌, ℕ, ◌+◌, ◌/◌, ◌%◌, ◌<◌, List, length, slice_index, bit_xor}

abbrev pub looked_up : List ℕ → List ℕ → ℕ → ℕ
looked_up low high s = bit_xor (slice_index low (s % 16)) (slice_index high (s / 16))

pub record IsTwice (table lanes : List ℕ) : Type 0 where
  pub width : length lanes ≡ 32
  pub first : (i : ℕ) → i < 16 → slice_index lanes i ≡ slice_index table i
  pub second : (i : ℕ) → i < 16 → slice_index lanes (16 + i) ≡ slice_index table i
