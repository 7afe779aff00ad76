-- table_of    what contracts see of the fields of classes
-- IsKept      what the fields of classes keep
-- listed      a listing with a limit of sums, as a table of classes
use Rattle.std.specs.Prelude.{◌≡◌, ℕ, ◌+◌, ◌*◌, ◌<◌, ◌≤◌, length, vec_capacity, All}
use Rattle.product_classes.specs.Table.{ClassTable}
use Rattle.product_classes.specs.Listings.{seen}
use Rattle.product_classes.specs.Shifts.{AreShiftRooms}
use Rattle.product_classes.specs.declared.listing.Listing.{Listing}
use Rattle.product_classes.specs.declared.classes.Classes.TheInside.{Inside}

abbrev pub listed : Listing → ℕ → ClassTable
listed a limit = record (seen a) { limit = limit }

abbrev pub table_of : Inside → ClassTable
table_of a = record {
  n = a.listing.n;
  size = a.size;
  most = vec_capacity a.listing.lefts;
  count = length a.listing.lefts.items;
  limit = a.limit;
  first = a.first;
  width = a.width;
  numbers = a.listing.numbers.items;
  reaches = a.listing.reaches.items;
  lefts = a.listing.lefts.items;
  rights = a.listing.rights.items;
  columns = a.columns.items;
}

pub record IsKept (a : Inside) : Type 0 where
  pub some : 1 ≤ a.listing.n
  pub small : a.listing.n ≤ 1024
  pub n_numbers : length a.listing.numbers.items ≡ a.listing.n * a.listing.n
  pub low : All (λ x. x < a.size) a.listing.numbers.items
  pub n_reaches : length a.listing.reaches.items ≡ a.listing.n
  pub short : All (λ x. x ≤ a.listing.n) a.listing.reaches.items
  pub same : length a.listing.rights.items ≡ length a.listing.lefts.items
  pub same_room : vec_capacity a.listing.rights ≡ vec_capacity a.listing.lefts
  pub within : length a.listing.lefts.items ≤ a.size
  pub some_value : 1 ≤ a.size
  pub few : a.size ≤ a.listing.n * a.listing.n + 15
  pub shifts : AreShiftRooms a.listing.n a.shifts
