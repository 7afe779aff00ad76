-- AreFunctionals   n lists U that are kept beside rows: of the rows below r the k that `picks` names are new, the first k lists
--                  are dual to these, the other lists vanish on them, and together the lists see every vector
-- IsPivotList      a list P that takes the place of list k, where row r is new
-- AreCleared       the lists V that are left when P stands at k and is taken from the other lists
--
-- A row is new where it is no combination of the rows before it: exactly where one of the lists from k on does not vanish
-- on it.
use Rattle.std.specs.Prelude.{◌≡◌, ◌≢◌, ℕ, ◌<◌, bit_xor}
use Rattle.field_theory.specs.Sums.{unit}
use Rattle.linear_theory.specs.Linear.{dot, IsCombination, rank}

pub record AreFunctionals (size : ℕ) (mul : ℕ → ℕ → ℕ) (n : ℕ) (rows : ℕ → ℕ → ℕ) (r k : ℕ) (picks : ℕ → ℕ) (U : ℕ → ℕ → ℕ) : Type 0 where
  pub below : (t : ℕ) → t < k → picks t < r
  pub rising : (s t : ℕ) → s < t → t < k → picks s < picks t
  pub fresh : (t : ℕ) → t < k → IsCombination mul n rows (picks t) (rows (picks t)) → ⊥
  pub others : (i : ℕ) → i < r → ((t : ℕ) → t < k → i ≢ picks t) → IsCombination mul n rows i (rows i)
  pub products : (t q : ℕ) → t < k → q < n → dot mul n (rows (picks t)) (U q) ≡ unit t q
  -- only the zero vector is not seen
  pub seen : (w : ℕ → ℕ) → ((p : ℕ) → p < n → w p < size) → ((q : ℕ) → q < n → dot mul n w (U q) ≡ 0) → (p : ℕ) → p < n → w p ≡ 0
  pub counted : k ≡ rank size mul n rows r

-- its product with row r is 1, it vanishes on the new rows so far, and what neither it nor the other lists see list k did
-- not see
pub record IsPivotList (mul : ℕ → ℕ → ℕ) (n : ℕ) (rows : ℕ → ℕ → ℕ) (r k : ℕ) (picks : ℕ → ℕ) (U : ℕ → ℕ → ℕ) (P : ℕ → ℕ) : Type 0 where
  pub one : dot mul n (rows r) P ≡ 1
  pub vanishes : (t : ℕ) → t < k → dot mul n (rows (picks t)) P ≡ 0
  pub sees : (w : ℕ → ℕ) → dot mul n w P ≡ 0 → ((q : ℕ) → q < n → q ≢ k → dot mul n w (U q) ≡ 0) → dot mul n w (U k) ≡ 0

pub record AreCleared (mul : ℕ → ℕ → ℕ) (n : ℕ) (row : ℕ → ℕ) (k : ℕ) (U : ℕ → ℕ → ℕ) (P : ℕ → ℕ) (V : ℕ → ℕ → ℕ) : Type 0 where
  pub pivot : (p : ℕ) → p < n → V k p ≡ P p
  pub others : (q : ℕ) → q < n → q ≢ k → (p : ℕ) → p < n → V q p ≡ bit_xor (U q p) (mul (dot mul n row (U q)) (P p))
