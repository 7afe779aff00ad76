use Rattle.product_classes.specs.Listings.{IsListed, IsListingRoom, seen}
use Rattle.product_classes.proofs.listing.Listing.list_all.Given as goal

abbrev pub invariant-loop-s : goal.invariant-loop-s
invariant-loop-s g l = record {
  room : IsListingRoom l.basis.n l.self;
  listed : IsListed l.basis (seen l.self) l.s 0;
}
