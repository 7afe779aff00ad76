-- rows_of    a list cut into so many rows of one length: the table that a flat list stores row by row
use Rattle.std.specs.Prelude.{ℕ, zero, suc, List, [], ◌∷◌, take, drop}

unfoldable pub rows_of : ℕ → ℕ → List ℕ → List (List ℕ)
rows_of zero cols xs = []
rows_of (suc rows) cols xs = take cols xs ∷ rows_of rows cols (drop cols xs)
