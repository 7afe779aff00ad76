use Rattle.std.proofs.Common.{w8}
use Rattle.std.proofs.lemmas.Simd.{below_from_Fits}
use Rattle.gf_linear.proofs.Sixteens.{low_parts-ok, high_parts-ok, look_up-long, look_up-is}
use Rattle.gf_linear.proofs.lists.look_up.Goals as goal

pub swizzle-lows : goal.swizzle-lows
swizzle-lows c = low_parts-ok c.args.symbols c.fits-symbols.0

pub swizzle-highs : goal.swizzle-highs
swizzle-highs c = high_parts-ok c.args.symbols c.fits-symbols.0 (below_from_Fits w8 c.args.symbols c.fits-symbols.1)

pub returns-clause-width : goal.returns-clause-width
returns-clause-width c = look_up-long c.args.low c.args.high c.args.symbols c.fits-symbols.0

pub returns-clause-value : goal.returns-clause-value
returns-clause-value c = look_up-is c.args.low c.args.high c.args.symbols c.fits-symbols.0 (below_from_Fits w8 c.args.symbols c.fits-symbols.1)
