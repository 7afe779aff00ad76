-- line_kept    the sum of the reduced rows that stand above a line, each times its factor, in one column
-- AreLeads     each column with a pivot has its number, the row of that pivot is 0 before it, and this is its inverse
-- IsLeft       the first column where a line differs from 0; no row above has its pivot there
-- AllAbove     the factors that are not 0 are those of rows above row i
use Rattle.std.specs.Prelude.{◌≡◌, ◌≢◌, ℕ, ◌+◌, ◌*◌, ◌<◌, ◌≤◌, List, slice_index, Option, Some, None}
use Rattle.field_theory.specs.Sums.{xor_sum}

abbrev pub line_kept : (ℕ → ℕ → ℕ) → ℕ → ℕ → (ℕ → ℕ) → List ℕ → ℕ → ℕ
line_kept mul stride span own above j = xor_sum span (λ t. mul (own t) (slice_index above (t * stride + j)))

pub record AreLeads (mul : ℕ → ℕ → ℕ) (n stride count : ℕ) (numbers inverse above : List ℕ) : Type 0 where
  pub low : (c : ℕ) → c < n → slice_index numbers c < n → slice_index numbers c < count
  pub zeros : (c j : ℕ) → c < n → slice_index numbers c < n → j < c → slice_index above (slice_index numbers c * stride + j) ≡ 0
  pub lead : (c : ℕ) → c < n → slice_index numbers c < n
      → mul (slice_index above (slice_index numbers c * stride + c)) (slice_index inverse (slice_index numbers c)) ≡ 1

abbrev pub AllAbove : (ℕ → ℕ) → ℕ → ℕ → (ℕ → ℕ) → Type 0
AllAbove rows i span own = (t : ℕ) → t < span → own t ≢ 0 → rows t < i

pub record IsLeftAt (n from to : ℕ) (numbers : List ℕ) (line : ℕ → ℕ) (c : ℕ) : Type 0 where
  pub after : from ≤ c
  pub inside : c < to
  pub free : n ≤ slice_index numbers c
  pub some : line c ≢ 0
  pub zeros : (j : ℕ) → j < c → line j ≡ 0

pub record IsLeftNone (to : ℕ) (line : ℕ → ℕ) : Type 0 where
  pub zeros : (j : ℕ) → j < to → line j ≡ 0

abbrev pub IsLeft : ℕ → ℕ → ℕ → List ℕ → (ℕ → ℕ) → Option ℕ → Type 0
IsLeft n from to numbers line (Some c) = IsLeftAt n from to numbers line c
IsLeft n from to numbers line None = IsLeftNone to line
