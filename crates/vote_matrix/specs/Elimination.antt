-- Elimination        what contracts see of a matrix that is settled row by row
-- reduced_at         entry j of the reduced row of a pivot
-- factor_at          what row i has of the reduced row of a pivot
-- kept_at            the sum of the reduced rows, each times the factor that row i has for it, in column j
-- IsEliminationOf    the pivots and the factors are those of S, as far as it is settled
-- MaySettle          the row is settled up to this column, and the rows above it past it
-- Grows              so many more entries of one row are settled
-- IsEmpty            nothing is settled
-- IsSound            what holds of each such matrix
-- AddsNothing        the rank of the settled part of row i and the rows above it is that of the rows above it
use Rattle.std.specs.Prelude.{◌≡◌, ℕ, suc, ◌+◌, ◌*◌, ◌<◌, ◌≤◌, ◌^◌, List, length, slice_index, slice_set, replicate, bit_xor}
use Rattle.field_theory.specs.Sums.{xor_sum, count_below, total}
use Rattle.gf_theory.specs.Field.{gf_mul, IsModulus}
use Rattle.linear_theory.specs.Linear.{rank}
use Rattle.counting_theory.specs.Ranks.{wrong}

-- An n by n matrix over the field of these bits and this modulus. Row i is settled on its first `slice_index known i`
-- columns. There are `count` pivots, of at most `most`: pivot number t stands in row `slice_index rows t`, and that row,
-- reduced, is row t of `reduced`. Row i has its pivot in column `slice_index pivots i`, which is n where it has none.
-- Row i is reduced by its first `slice_index spans i` factors.
pub record Elimination : Type 0 where
  pub bits : ℕ
  pub modulus : ℕ
  pub n : ℕ
  pub most : ℕ
  pub count : ℕ
  pub stride : ℕ
  pub known : List ℕ
  pub pivots : List ℕ
  pub rows : List ℕ
  pub spans : List ℕ
  pub reduced : List ℕ
  pub factors : List ℕ

abbrev pub reduced_at : Elimination → ℕ → ℕ → ℕ
reduced_at v t j = slice_index v.reduced (t * v.stride + j)

abbrev pub factor_at : Elimination → ℕ → ℕ → ℕ
factor_at v i t = slice_index v.factors (i * v.most + t)

abbrev pub kept_at : Elimination → ℕ → ℕ → ℕ
kept_at v i j = xor_sum (slice_index v.spans i) (λ t. gf_mul v.bits v.modulus (factor_at v i t) (reduced_at v t j))

-- The settled part of S is eliminated: a pivot row is reduced by what its row keeps, and before its pivot, or everywhere
-- where it has none, a row is what it keeps
pub record IsEliminationOf (S : ℕ → ℕ → ℕ) (v : Elimination) : Type 0 where
  pub symbols : (i j : ℕ) → S i j < 2 ^ v.bits
  pub inside : (t : ℕ) → t < v.count → slice_index v.rows t < v.n
  pub pivot_rows : (t j : ℕ) → t < v.count → j < slice_index v.known (slice_index v.rows t)
      → reduced_at v t j ≡ bit_xor (S (slice_index v.rows t) j) (kept_at v (slice_index v.rows t) j)
  pub before : (i j : ℕ) → i < v.n → j < slice_index v.known i → j < slice_index v.pivots i → S i j ≡ kept_at v i j

pub record MaySettle (v : Elimination) (i j : ℕ) : Type 0 where
  pub row : j ≤ slice_index v.known i
  pub above : (p : ℕ) → p < i → j < slice_index v.known p

-- w is v with `len` more entries of row i settled
pub record Grows (v : Elimination) (i len : ℕ) (w : Elimination) : Type 0 where
  pub bits : w.bits ≡ v.bits
  pub modulus : w.modulus ≡ v.modulus
  pub n : w.n ≡ v.n
  pub most : w.most ≡ v.most
  pub known : w.known ≡ slice_set v.known i (slice_index v.known i + len)
  pub more : v.count ≤ w.count
  pub one : w.count ≤ v.count + 1

pub record IsEmpty (bits modulus n most : ℕ) (v : Elimination) : Type 0 where
  pub bits_are : v.bits ≡ bits
  pub modulus_is : v.modulus ≡ modulus
  pub n_is : v.n ≡ n
  pub most_is : v.most ≡ most
  pub known : v.known ≡ replicate n 0
  pub count : v.count ≡ 0
  pub of_all : (S : ℕ → ℕ → ℕ) → ((i j : ℕ) → S i j < 2 ^ bits) → IsEliminationOf S v

-- No row is settled further than the rows above it
pub record IsSound (v : Elimination) : Type 0 where
  pub is_modulus : IsModulus v.bits v.modulus
  pub some : 1 ≤ v.n
  pub small : v.n ≤ 1024
  pub known_fit : length v.known ≡ v.n
  pub width : (i : ℕ) → i < v.n → slice_index v.known i ≤ v.n
  pub falls : (p q : ℕ) → p ≤ q → q < v.n → slice_index v.known q ≤ slice_index v.known p
  pub few : v.count ≤ v.most

-- the rank of the first i rows and the first j columns of S
abbrev pub rank_of : Elimination → (ℕ → ℕ → ℕ) → ℕ → ℕ → ℕ
rank_of v S i j = rank (2 ^ v.bits) (gf_mul v.bits v.modulus) j S i

pub record AddsNothing (v : Elimination) (S : ℕ → ℕ → ℕ) (i : ℕ) : Type 0 where
  pub rank_is : rank_of v S (suc i) (slice_index v.known i) ≡ rank_of v S i (slice_index v.known i)

-- the number of settled positions that are candidates, and at which the rank up to row i and column j is greater
abbrev pub count_pivots : Elimination → (ℕ → ℕ → ℕ) → ℕ
count_pivots v S = total v.n (λ i. count_below (slice_index v.known i) (wrong (rank_of v S) i))
