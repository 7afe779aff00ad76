use Rattle.product_classes.specs.Listings.{seen}
use Rattle.product_classes.proofs.Growth.{noted}
use Rattle.product_classes.proofs.listing.Listing.note.Goals as goal

pub returns-clause-listed : goal.returns-clause-listed
returns-clause-listed g c =
    let r = c.requires in
    noted c.args.basis.now (seen c.args.self.now) c.args.i c.args.j c.args.class c.n.ensures.sound r.listed r.row r.column r.is_next r.sum r.room.n_numbers r.room.n_reaches r.class
