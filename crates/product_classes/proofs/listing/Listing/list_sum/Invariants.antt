use Rattle.product_classes.specs.Listings.{IsListed, IsListingRoom, seen}
use Rattle.product_classes.proofs.listing.Listing.list_sum.Given as goal

abbrev pub invariant-loop-i : goal.invariant-loop-i
invariant-loop-i g l = record {
  room : IsListingRoom l.basis.n l.self;
  listed : IsListed l.basis (seen l.self) l.s l.i;
}
