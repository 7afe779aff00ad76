-- ClassTable      what contracts see of classes: numbers of pairs of members, and a pair that stands for each class
-- class_at        the class of the pair (i, j)
-- left, right     the pair of members that stands for a class
-- first_sum       the sum of that pair
-- IsOfClass       the pair (i, j) is of a class: the matrix of every list has the same entry there as at the class's own pair
-- StandsFor       the pair of a class is a pair of members, and is of that class
-- AreReaches      how many of the first columns of each row have sums below a limit
-- AreClassesOf    each pair of members whose sum is an index is of its class; classes are numbered by rising sums
-- HasColumns      the products of the classes with sums below the limit, at the positions from `first` on
-- IsRoomFor       room for the classes of any basis of n members
use Rattle.std.specs.Prelude.{◌≡◌, ℕ, ◌+◌, ◌*◌, ◌<◌, ◌≤◌, ◌-◌, ◌^◌, List, length, slice_index, All}
use Rattle.order_theory.specs.Basis.{Basis, times, vector, sum_at}
use Rattle.order_theory.specs.Errors.{entry}

-- Plain data: `AreClassesOf` says when it fits a basis. There are `count` classes, and room for `most`. A list of values,
-- one for each class, has at least `size` entries. `numbers` has the class of each pair, row by row. `columns` has for
-- each position from `first` on the products of the first `width` classes there
pub record ClassTable : Type 0 where
  pub n : ℕ
  pub size : ℕ
  pub most : ℕ
  pub count : ℕ
  pub limit : ℕ
  pub first : ℕ
  pub width : ℕ
  pub numbers : List ℕ
  pub reaches : List ℕ
  pub lefts : List ℕ
  pub rights : List ℕ
  pub columns : List ℕ

abbrev pub class_at : ClassTable → ℕ → ℕ → ℕ
class_at v i j = slice_index v.numbers (i * v.n + j)

abbrev pub left : ClassTable → ℕ → ℕ
left v c = slice_index v.lefts c

abbrev pub right : ClassTable → ℕ → ℕ
right v c = slice_index v.rights c

abbrev pub first_sum : Basis → ClassTable → ℕ → ℕ
first_sum b v c = sum_at b (left v c) (right v c)

pub record IsOfClass (b : Basis) (v : ClassTable) (i j c : ℕ) : Type 0 where
  pub number : c < v.count
  pub lowest : first_sum b v c ≤ sum_at b i j
  pub same : (w : List ℕ) → entry (times b) b w i j ≡ entry (times b) b w (left v c) (right v c)

pub record StandsFor (b : Basis) (v : ClassTable) (c : ℕ) : Type 0 where
  pub row : left v c < b.n
  pub column : right v c < b.n
  pub own : class_at v (left v c) (right v c) ≡ c

pub record AreReaches (b : Basis) (limit : ℕ) (reaches : List ℕ) : Type 0 where
  pub within : (i : ℕ) → i < b.n → slice_index reaches i ≤ b.n
  pub below : (i j : ℕ) → i < b.n → j < slice_index reaches i → sum_at b i j < limit
  pub all : (i j : ℕ) → i < b.n → j < b.n → sum_at b i j < limit → j < slice_index reaches i
  pub falls : (p q : ℕ) → p ≤ q → q < b.n → slice_index reaches q ≤ slice_index reaches p

pub record AreClassesOf (b : Basis) (v : ClassTable) : Type 0 where
  pub n_is : v.n ≡ b.n
  pub few : v.count ≤ v.n * v.n
  pub low_limit : v.limit ≤ b.count
  pub reaches_are : AreReaches b v.limit v.reaches
  pub stand : (c : ℕ) → c < v.count → StandsFor b v c
  pub rise : (c d : ℕ) → c ≤ d → d < v.count → first_sum b v c ≤ first_sum b v d
  pub each : (i j : ℕ) → i < b.n → j < b.n → sum_at b i j < b.count → IsOfClass b v i j (class_at v i j)

pub record HasColumns (b : Basis) (v : ClassTable) : Type 0 where
  pub low_first : v.first ≤ b.n
  pub narrow : v.width ≤ v.size
  pub long : length v.columns ≡ (b.n - v.first) * v.width
  pub symbols : All (λ x. x < 2 ^ b.bits) v.columns
  pub enough : (c : ℕ) → c < v.count → first_sum b v c < v.limit → c < v.width
  pub products : (p c : ℕ) → v.first + p < b.n → c < v.count → first_sum b v c < v.limit →
      slice_index v.columns (p * v.width + c) ≡ times b (vector b (left v c) (v.first + p)) (vector b (right v c) (v.first + p))

pub record IsRoomFor (n : ℕ) (v : ClassTable) : Type 0 where
  pub n_is : v.n ≡ n
  pub all : v.most ≡ n * n
  pub long : v.size ≡ n * n
