-- seen             a listing as a table of classes
-- IsListingRoom    room for the classes of n members
-- IsListedPair     the pair that began a class is listed, as of that class
-- IsListed         the pairs with sums below s are listed, and those of the rows below i with sum s
use Rattle.std.specs.Prelude.{◌≡◌, ℕ, ◌*◌, ◌<◌, ◌≤◌, [], length, slice_index, sum, vec_capacity, All}
use Rattle.order_theory.specs.Basis.{Basis, sum_at}
use Rattle.product_classes.specs.Table.{ClassTable, IsOfClass, class_at, left, right, first_sum}
use Rattle.product_classes.specs.declared.listing.Listing.{Listing}

abbrev pub seen : Listing → ClassTable
seen a = record {
  n = a.n;
  size = 0;
  most = 0;
  count = length a.lefts.items;
  limit = 0;
  first = 0;
  width = 0;
  numbers = a.numbers.items;
  reaches = a.reaches.items;
  lefts = a.lefts.items;
  rights = a.rights.items;
  columns = [];
}

pub record IsListingRoom (n : ℕ) (a : Listing) : Type 0 where
  pub n_is : a.n ≡ n
  pub n_numbers : length a.numbers.items ≡ n * n
  pub n_reaches : length a.reaches.items ≡ n
  pub room_lefts : vec_capacity a.lefts ≡ n * n
  pub room_rights : vec_capacity a.rights ≡ n * n
  pub same : length a.rights.items ≡ length a.lefts.items

pub record IsListedPair (b : Basis) (v : ClassTable) (s c : ℕ) : Type 0 where
  pub row : left v c < b.n
  pub column : right v c < slice_index v.reaches (left v c)
  pub own : class_at v (left v c) (right v c) ≡ c
  pub low : first_sum b v c ≤ s

pub record IsListed (b : Basis) (v : ClassTable) (s i : ℕ) : Type 0 where
  pub n_is : v.n ≡ b.n
  pub within : (p : ℕ) → p < b.n → slice_index v.reaches p ≤ b.n
  pub numbers_low : All (λ x. x < v.count) v.numbers
  pub few : v.count ≤ sum v.reaches
  pub before : (p q : ℕ) → p < b.n → q < b.n → sum_at b p q < b.count → sum_at b p q < s → q < slice_index v.reaches p
  pub here : (p q : ℕ) → p < i → p < b.n → q < b.n → sum_at b p q < b.count → sum_at b p q ≤ s → q < slice_index v.reaches p
  pub stand : (c : ℕ) → c < v.count → IsListedPair b v s c
  pub rise : (c d : ℕ) → c ≤ d → d < v.count → first_sum b v c ≤ first_sum b v d
  pub each : (p q : ℕ) → p < b.n → q < slice_index v.reaches p → IsOfClass b v p q (class_at v p q)
