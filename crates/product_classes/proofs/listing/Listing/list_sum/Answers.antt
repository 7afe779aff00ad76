use Rattle.std.proofs.Common.{refl, arith}
use Rattle.product_classes.specs.Listings.{seen}
use Rattle.product_classes.proofs.Growth.{next_sum, rest_above}
use Rattle.product_classes.proofs.listing.Listing.list_sum.Goals as goal

pub returns-then-is_above-clause-listed : goal.returns-then-is_above-clause-listed
returns-then-is_above-clause-listed g c = rest_above c.args.basis.now (seen c.loop-i.self) c.args.s c.loop-i.i c.n-i-end.ensures.sound c.loop-i.invariant.listed (c.if-is_above.ensures refl)

pub returns-clause-listed : goal.returns-clause-listed
returns-clause-listed g c = next_sum c.args.basis.now (seen c.loop-i.self) c.args.s c.loop-i.i c.loop-i.invariant.listed (λ p q u lp lq ls le. absurd (omega (arith, c.n-i-end.ensures.value)))
