use Rattle.std.proofs.Common.{w8}
use Rattle.std.proofs.lemmas.Simd.{below_from_Fits}
use Rattle.gf_linear.proofs.Wides.{low_parts-fit, high_parts-fit, thirty_two-long, thirty_two-is}
use Rattle.gf_linear.proofs.lanes.look_up.Goals as goal

pub swizzle-lows : goal.swizzle-lows
swizzle-lows c = low_parts-fit c.args.symbols c.fits-symbols.0

pub swizzle-highs : goal.swizzle-highs
swizzle-highs c = high_parts-fit c.args.symbols c.fits-symbols.0 (below_from_Fits w8 c.args.symbols c.fits-symbols.1)

pub returns-clause-width : goal.returns-clause-width
returns-clause-width c = thirty_two-long c.args.symbols c.fits-symbols.0 c.args.low c.args.high

pub returns-clause-value : goal.returns-clause-value
returns-clause-value c = thirty_two-is c.args.symbols c.fits-symbols.0 c.args.low c.args.high (below_from_Fits w8 c.args.symbols c.fits-symbols.1)
