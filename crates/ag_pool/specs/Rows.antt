-- AreReady     each row of `cols` entries meets a condition
-- ActedFrom    each row is as the act on it leaves it, where the first row has the number `first`
use Rattle.std.specs.Prelude.{ℕ, ◌≡◌, ◌+◌, ◌*◌, ◌≤◌, List, length, take, drop}

abbrev pub AreReady : (List ℕ → Type 0) → ℕ → List ℕ → Type 0
AreReady ready cols xs = (q : ℕ) → q * cols + cols ≤ length xs → ready (take cols (drop (q * cols) xs))

abbrev pub ActedFrom : (ℕ → List ℕ → List ℕ) → ℕ → ℕ → List ℕ → List ℕ → Type 0
ActedFrom after first cols old new = (q : ℕ) → q * cols + cols ≤ length old → take cols (drop (q * cols) new) ≡ after (first + q) (take cols (drop (q * cols) old))
