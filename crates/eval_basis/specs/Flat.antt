-- IsTable     a flat list holds a table of n rows of n entries, row by row
-- IsList      a list of n entries
-- listed      the list of the first n values of a function
-- tabled      the flat list of a table of so many rows of n entries
use Rattle.std.specs.Prelude.{◌≡◌, ℕ, zero, suc, ◌+◌, ◌*◌, ◌<◌, List, [], ◌++◌, map, length, slice_index}
use Rattle.std.specs.List.{range_with_len}

pub record IsTable (n : ℕ) (f : ℕ → ℕ → ℕ) (xs : List ℕ) : Type 0 where
  pub long : length xs ≡ n * n
  pub entries : (i j : ℕ) → i < n → j < n → slice_index xs (i * n + j) ≡ f i j

pub record IsList (n : ℕ) (f : ℕ → ℕ) (xs : List ℕ) : Type 0 where
  pub long : length xs ≡ n
  pub entries : (k : ℕ) → k < n → slice_index xs k ≡ f k

abbrev pub listed : ℕ → (ℕ → ℕ) → List ℕ
listed n f = map f (range_with_len 0 n)

unfoldable pub tabled : (rows n : ℕ) → (ℕ → ℕ → ℕ) → List ℕ
tabled zero n f = []
tabled (suc rows) n f = tabled rows n f ++ listed n (f rows)
