-- IsRow          a list has at each element y the product of x and y
-- AreProducts    there is a row for each element x, and it has the products of x
-- AreInverses    a list has at each element but 0 its inverse
-- table_at       the tables of an element, and past the last one none
-- AreTables      there are tables for each element, and they have its multiples
use Rattle.std.specs.Prelude.{◌≡◌, ℕ, ◌^◌, ◌<◌, List, [], length, slice_index, slice_index_or}
use Rattle.gf_theory.specs.Field.{gf_mul}
use Rattle.gf_field.specs.declared.multiples.Multiples.{Multiples}
use Rattle.gf_field.specs.Multiples.{AreMultiples}

-- Elements of the field of the bits m and the modulus p are the numbers below `2 ^ m`.

pub record IsRow (m p x : ℕ) (row : List ℕ) : Type 0 where
  pub products : (y : ℕ) → y < 2 ^ m → slice_index row y ≡ gf_mul m p x y

pub record AreProducts (m p : ℕ) (rows : List (List ℕ)) : Type 0 where
  pub size : length rows ≡ 2 ^ m
  pub row : (x : ℕ) → x < 2 ^ m → IsRow m p x (slice_index_or rows x [])

pub record AreInverses (m p : ℕ) (inverses : List ℕ) : Type 0 where
  pub element : (x : ℕ) → 0 < x → x < 2 ^ m → slice_index inverses x < 2 ^ m
  pub inverse : (x : ℕ) → 0 < x → x < 2 ^ m → gf_mul m p x (slice_index inverses x) ≡ 1

abbrev pub table_at : List Multiples → ℕ → Multiples
table_at tables c = slice_index_or tables c (record { low = []; high = [] })

pub record AreTables (m p : ℕ) (tables : List Multiples) : Type 0 where
  pub count : length tables ≡ 2 ^ m
  pub each : (c : ℕ) → c < 2 ^ m → AreMultiples m p c (table_at tables c).low (table_at tables c).high
