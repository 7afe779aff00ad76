-- dot                 the sum of the products of two vectors, place by place
-- combine             an entry of the sum of a factor times each row
-- IsCombination       a vector is a combination of rows
-- AreIndependent      only the factors 0 make a combination of the rows that is 0
-- AreNew              no row is a combination of the rows before it, which says the same
-- in_span             the test that decides IsCombination
-- rank                the number of rows that are no combination of the rows before them
-- IsGreatestNumber    the greatest number of independent rows
-- weight              the number of symbols other than 0
-- syndromes           the matrix of the sums of the products of an error and two vectors
-- put_entry           a matrix with another entry at one place
-- IsDual              rows and a dual list of them
-- SameSpan            two lists of rows have the same combinations
-- IsReduced           rows in reduced row echelon form
-- IsSolution          a solution of equations
-- IsOrderedBasis      the rows that are no combination of the rows before them, in their order
-- IsFree              a column that adds nothing to the rank of the columns before it
-- IsCandidate         a position whose row and whose column add nothing to the rank of what is before them
-- KeepsRank           a value at a candidate with which the rank up to it is that of what is before it
--
-- All over a field `size`, `mul` (`IsField` of field_theory). A vector is a function from places, of which the places
-- below a length n count. A matrix is a function from row numbers to vectors, of which the rows below r count.
-- Source: the linear algebra of any textbook; the names are those of S. Axler, "Linear Algebra Done Right".
use Rattle.std.specs.Prelude.{◌≡◌, ℕ, zero, suc, ◌+◌, ◌<◌, ◌≤◌, bit_xor, Bool, cond, eqb}
use Rattle.field_theory.specs.Sums.{xor_sum, any_below, all_below, put, unit}

abbrev pub dot : (ℕ → ℕ → ℕ) → ℕ → (ℕ → ℕ) → (ℕ → ℕ) → ℕ
dot mul n x y = xor_sum n (λ p. mul (x p) (y p))

-- entry j of the sum of c i times row i over the i below r
abbrev pub combine : (ℕ → ℕ → ℕ) → ℕ → (ℕ → ℕ) → (ℕ → ℕ → ℕ) → ℕ → ℕ
combine mul r c rows j = xor_sum r (λ i. mul (c i) (rows i j))

-- v, looked at below n, is a combination of the rows below r
pub record IsCombination (mul : ℕ → ℕ → ℕ) (n : ℕ) (rows : ℕ → ℕ → ℕ) (r : ℕ) (v : ℕ → ℕ) : Type 0 where
  pub factors : ℕ → ℕ
  pub is_sum : (j : ℕ) → j < n → v j ≡ combine mul r factors rows j

-- the only combination of the rows below r that is 0 below n is the one whose factors are all 0
pub record AreIndependent (size : ℕ) (mul : ℕ → ℕ → ℕ) (n : ℕ) (rows : ℕ → ℕ → ℕ) (r : ℕ) : Type 0 where
  pub only_zero : (c : ℕ → ℕ) → ((i : ℕ) → i < r → c i < size) → ((j : ℕ) → j < n → combine mul r c rows j ≡ 0) → (i : ℕ) → i < r → c i ≡ 0

-- of the rows below r none is a combination of the rows before it: another way to say that they are independent
pub record AreNew (mul : ℕ → ℕ → ℕ) (n : ℕ) (rows : ℕ → ℕ → ℕ) (r : ℕ) : Type 0 where
  pub at_row : (i : ℕ) → i < r → IsCombination mul n rows i (rows i) → ⊥

-- Whether v is a combination of the rows below r, by trying each factor of the last row
unfoldable pub in_span : (size : ℕ) (mul : ℕ → ℕ → ℕ) (n : ℕ) (rows : ℕ → ℕ → ℕ) → ℕ → (ℕ → ℕ) → Bool
in_span size mul n rows zero v = all_below n (λ j. eqb (v j) 0)
in_span size mul n rows (suc r) v = any_below size (λ c. in_span size mul n rows r (λ j. bit_xor (v j) (mul c (rows r j))))

-- how many of the rows below r are no combination of the rows before them
unfoldable pub rank : (size : ℕ) (mul : ℕ → ℕ → ℕ) (n : ℕ) (rows : ℕ → ℕ → ℕ) → ℕ → ℕ
rank size mul n rows zero = 0
rank size mul n rows (suc r) = rank size mul n rows r + cond (in_span size mul n rows r (rows r)) 0 1

-- how many of the places below n have a symbol other than 0
abbrev pub weight : ℕ → (ℕ → ℕ) → ℕ
weight zero e = 0
weight (suc n) e = weight n e + cond (eqb (e n) 0) 0 1

-- entry (i, j) of the matrix of syndromes: the sum over p of e p times f i p times f j p
abbrev pub syndromes : (ℕ → ℕ → ℕ) → ℕ → (ℕ → ℕ) → (ℕ → ℕ → ℕ) → ℕ → ℕ → ℕ
syndromes mul n e f i j = xor_sum n (λ p. mul (e p) (mul (f i p) (f j p)))

-- the matrix with the value x at row i, column j
abbrev pub put_entry : (ℕ → ℕ → ℕ) → ℕ → ℕ → ℕ → ℕ → ℕ → ℕ
put_entry rows i j x q = cond (eqb q i) (put (rows i) j x) (rows q)

-- the product of row i and dual list j is 1 where i is j, and else 0
pub record IsDual (mul : ℕ → ℕ → ℕ) (n : ℕ) (rows duals : ℕ → ℕ → ℕ) : Type 0 where
  pub products : (i j : ℕ) → i < n → j < n → dot mul n (rows i) (duals j) ≡ unit i j

-- two lists of rows span the same vectors of length n
pub record SameSpan (mul : ℕ → ℕ → ℕ) (n : ℕ) (rows : ℕ → ℕ → ℕ) (r : ℕ) (others : ℕ → ℕ → ℕ) (s : ℕ) : Type 0 where
  pub forth : (i : ℕ) → i < r → IsCombination mul n others s (rows i)
  pub back : (i : ℕ) → i < s → IsCombination mul n rows r (others i)

-- The r rows are in reduced row echelon form, with k rows that are not 0: the pivot of row t is the first place at which
-- it is not 0, the pivots rise, a pivot is 1 in its row and 0 in the other rows, and the rows from k on are 0
pub record IsReduced (n : ℕ) (rows : ℕ → ℕ → ℕ) (r : ℕ) (k : ℕ) : Type 0 where
  pub few : k ≤ r
  pub pivots : ℕ → ℕ
  pub in_range : (t : ℕ) → t < k → pivots t < n
  pub rising : (t u : ℕ) → t < u → u < k → pivots t < pivots u
  pub before : (t j : ℕ) → t < k → j < pivots t → rows t j ≡ 0
  pub columns : (q t : ℕ) → q < k → t < k → rows q (pivots t) ≡ unit q t
  pub zeros : (i j : ℕ) → k ≤ i → i < r → j < n → rows i j ≡ 0

-- x solves the equations whose left sides are the first n entries of the rows, and whose right sides are the entries at n
pub record IsSolution (mul : ℕ → ℕ → ℕ) (n : ℕ) (rows : ℕ → ℕ → ℕ) (r : ℕ) (x : ℕ → ℕ) : Type 0 where
  pub solves : (i : ℕ) → i < r → dot mul n (rows i) x ≡ rows i n

-- The k rows below r that are no combination of the rows before them, in their order: row `picks t` is the one before
-- which t such rows stand. The rows below i are combinations of those of them that stand below i
pub record IsOrderedBasis (size : ℕ) (mul : ℕ → ℕ → ℕ) (n : ℕ) (rows : ℕ → ℕ → ℕ) (r : ℕ) (k : ℕ) : Type 0 where
  pub picks : ℕ → ℕ
  pub within : (t : ℕ) → t < k → picks t < r
  pub rising : (t u : ℕ) → t < u → u < k → picks t < picks u
  pub place : (t : ℕ) → t < k → rank size mul n rows (picks t) ≡ t
  pub fresh : (t : ℕ) → t < k → IsCombination mul n rows (picks t) (rows (picks t)) → ⊥
  pub found : (i : ℕ) → i < r → (IsCombination mul n rows i (rows i) → ⊥) → (rank size mul n rows i < k) × (picks (rank size mul n rows i) ≡ i)
  pub spans : (i q : ℕ) → i ≤ r → q < i → IsCombination mul n (λ t. rows (picks t)) (rank size mul n rows i) (rows q)

-- k is the greatest number of independent rows among the rows below r: some k of them are independent, and no more are
pub record IsGreatestNumber (size : ℕ) (mul : ℕ → ℕ → ℕ) (n : ℕ) (rows : ℕ → ℕ → ℕ) (r : ℕ) (k : ℕ) : Type 0 where
  pub picks : ℕ → ℕ
  pub within : (t : ℕ) → t < k → picks t < r
  pub independent : AreIndependent size mul n (λ t. rows (picks t)) k
  pub greatest : (others : ℕ → ℕ) (s : ℕ) → ((t : ℕ) → t < s → others t < r) → AreIndependent size mul n (λ t. rows (others t)) s → s ≤ k

-- column j adds nothing to the rank of the columns before it: the reduced form has no pivot there
pub record IsFree (size : ℕ) (mul : ℕ → ℕ → ℕ) (rows : ℕ → ℕ → ℕ) (r : ℕ) (j : ℕ) : Type 0 where
  pub adds_nothing : rank size mul (suc j) rows r ≡ rank size mul j rows r

-- neither row i nor column j adds to the rank of what is before it
pub record IsCandidate (size : ℕ) (mul : ℕ → ℕ → ℕ) (rows : ℕ → ℕ → ℕ) (i j : ℕ) : Type 0 where
  pub row : rank size mul j rows (suc i) ≡ rank size mul j rows i
  pub column : rank size mul (suc j) rows i ≡ rank size mul j rows i

-- with x at (i, j) the rank up to row i and column j is that of what is before them
pub record KeepsRank (size : ℕ) (mul : ℕ → ℕ → ℕ) (rows : ℕ → ℕ → ℕ) (i j x : ℕ) : Type 0 where
  pub rank_is : rank size mul (suc j) (put_entry rows i j x) (suc i) ≡ rank size mul j rows i
