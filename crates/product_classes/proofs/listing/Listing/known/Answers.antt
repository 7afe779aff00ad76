use Rattle.product_classes.specs.Listings.{seen}
use Rattle.product_classes.proofs.Starts.{class_of_turned}
use Rattle.product_classes.proofs.listing.Listing.known.Goals as goal

pub returns-in-Some : goal.returns-in-Some
returns-in-Some g c = λ k h.
    class_of_turned c.args.basis.now (seen c.args.self.now) k c.args.i c.args.j c.in-Some.class c.n.ensures.sound h c.requires.column c.in-Some.ensures.listed c.in-Some.ensures.class
