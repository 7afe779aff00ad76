-- list_of      list k of n, where row p of a table has the symbols of all lists at position p, and the lists stand in an order
-- taken        the symbols of all lists at a position, after list q was scaled by a factor, and its multiples were added to
--              the other lists, so that the products with it become 0
-- AreLists     n lists of n symbols, by position, with an order of their numbers; a position that is not used has 1 in the
--              list of its own number, and 0 in the others
-- IsTaken      the lists after list q was taken, which has a product other than 0
-- after_takes  the symbols of all lists at a position after the first takes of a band: each is of the list of a number, by a
--              factor, and a row of a table has the products
-- lists_after  the lists after all takes of a band, by position
-- AreTakes     the takes of a band: what is scaled has the product 1
-- IsTakeOf     the take of list q is one more, for a function with these products
-- AreSeen      the lists and the used positions, as their products with a function are made
-- IsSettled    a function with these products was judged: if it is new a list was taken
-- IsStep       the lists come of others by one more row, whose values are given; `is_new` tells whether it is new
use Rattle.std.specs.Prelude.{◌≡◌, ◌≢◌, ℕ, zero, suc, [], ◌∷◌, ◌++◌, ◌≤◌, ◌+◌, ◌*◌, ◌^◌, ◌<◌, bit_xor, Bool, false, MatchBool, List, length, slice_index, slice_set, All}
use Rattle.field_theory.specs.Sums.{put, unit}
use Rattle.gf_theory.specs.Field.{gf_mul}
use Rattle.linear_theory.specs.Linear.{combine}
use Rattle.linear_theory.specs.Functionals.{AreFunctionals}
use Rattle.order_theory.specs.Codes.{marked}
use Rattle.gf_linear.specs.Cells.{cell}
use Rattle.eval_basis.specs.Flat.{tabled}

abbrev pub list_of : (n : ℕ) → List ℕ → List ℕ → ℕ → ℕ → ℕ
list_of n symbols order k p = cell symbols n p (slice_index order k)

abbrev pub taken : (ℕ → ℕ → ℕ) → (factor q : ℕ) → (row products : ℕ → ℕ) → ℕ → ℕ
taken mul factor q row products = put (λ j. bit_xor (row j) (mul (mul factor (row q)) (products j))) q (mul factor (row q))

pub record AreLists (bits n : ℕ) (symbols order : List ℕ) (used : List Bool) : Type 0 where
  pub n_symbols : length symbols ≡ n * n
  pub over : All (λ x. x < 2 ^ bits) symbols
  pub n_order : length order ≡ n
  pub n_used : length used ≡ n
  pub numbers : (k : ℕ) → k < n → slice_index order k < n
  pub distinct : (j k : ℕ) → j < k → k < n → slice_index order j ≢ slice_index order k
  pub units : (p q : ℕ) → p < n → q < n → marked used p ≡ false → cell symbols n p q ≡ unit p q

pub record IsTaken (mul : ℕ → ℕ → ℕ) (n q : ℕ) (products symbols now : List ℕ) : Type 0 where
  pub factor : ℕ
  pub inverse : mul factor (slice_index products q) ≡ 1
  pub rows : (p j : ℕ) → p < n → j < n → cell now n p j ≡ taken mul factor q (cell symbols n p) (slice_index products) j

pub record IsStep (size : ℕ) (mul : ℕ → ℕ → ℕ) (n k : ℕ) (values symbols order now order' : List ℕ) (is_new : Bool) : Type 0 where
  pub step : (rows : ℕ → ℕ → ℕ) (r : ℕ) (picks : ℕ → ℕ) → ((i p : ℕ) → rows i p < size) → ((p : ℕ) → p < n → slice_index values p ≡ rows r p) →
      AreFunctionals size mul n rows r k picks (list_of n symbols order) →
      MatchBool is_new (AreFunctionals size mul n rows (r + 1) (k + 1) (put picks k r) (list_of n now order')) (AreFunctionals size mul n rows (r + 1) k picks (list_of n now order'))

unfoldable pub after_takes : (ℕ → ℕ → ℕ) → (n : ℕ) → (numbers factors table : List ℕ) → ℕ → (ℕ → ℕ) → ℕ → ℕ
after_takes mul n numbers factors table zero row j = row j
after_takes mul n numbers factors table (suc m) row j =
    taken mul (slice_index factors m) (slice_index numbers m) (after_takes mul n numbers factors table m row) (cell table n m) j

abbrev pub lists_after : (ℕ → ℕ → ℕ) → (n : ℕ) → (numbers factors table symbols : List ℕ) → List ℕ
lists_after mul n numbers factors table symbols = tabled n n (λ p. after_takes mul n numbers factors table (length numbers) (cell symbols n p))

pub record AreTakes (bits n : ℕ) (numbers factors table : List ℕ) : Type 0 where
  pub n_factors : length factors ≡ length numbers
  pub n_table : length table ≡ length numbers * n
  pub below : (t : ℕ) → t < length numbers → slice_index numbers t < n
  pub ones : (t : ℕ) → t < length numbers → cell table n t (slice_index numbers t) ≡ 1
  pub factor_symbols : All (λ x. x < 2 ^ bits) factors
  pub table_symbols : All (λ x. x < 2 ^ bits) table

pub record IsTakeOf (mul : ℕ → ℕ → ℕ) (q : ℕ) (products numbers factors table numbers' factors' table' : List ℕ) : Type 0 where
  pub factor : ℕ
  pub inverse : mul factor (slice_index products q) ≡ 1
  pub numbers_are : numbers' ≡ numbers ++ q ∷ []
  pub factors_are : factors' ≡ factors ++ factor ∷ []
  pub table_is : table' ≡ table ++ slice_set products q 1

pub record AreSeen (bits n : ℕ) (symbols : List ℕ) (used : List Bool) : Type 0 where
  pub few : n ≤ 1024
  pub n_symbols : length symbols ≡ n * n
  pub over : All (λ x. x < 2 ^ bits) symbols
  pub n_used : length used ≡ n
  pub units : (p q : ℕ) → p < n → q < n → marked used p ≡ false → cell symbols n p q ≡ unit p q

pub record IsSettled (bits modulus n k : ℕ) (products order numbers factors table : List ℕ) (used : List Bool)
    (order' numbers' factors' table' : List ℕ) (used' : List Bool) (is_new : Bool) : Type 0 where
  pub step : (values symbols : List ℕ) → AreLists bits n (lists_after (gf_mul bits modulus) n numbers factors table symbols) order used →
      ((q : ℕ) → q < n → slice_index products q ≡ combine (gf_mul bits modulus) n (slice_index values) (cell (lists_after (gf_mul bits modulus) n numbers factors table symbols) n) q) →
      IsStep (2 ^ bits) (gf_mul bits modulus) n k values (lists_after (gf_mul bits modulus) n numbers factors table symbols) order
      (lists_after (gf_mul bits modulus) n numbers' factors' table' symbols) order' is_new
      × AreLists bits n (lists_after (gf_mul bits modulus) n numbers' factors' table' symbols) order' used'
