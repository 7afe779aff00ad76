use Rattle.std.proofs.Common.{arith}
use Rattle.std.proofs.lemmas.Simd.{get_or-put_chunk_at, get_or-put_chunk_below}
use Rattle.gf_linear.proofs.combining.put_lanes.Goals as goal

pub returns-clause-here : goal.returns-clause-here
returns-clause-here c i l = get_or-put_chunk_at c.args.at c.args.sum.now c.args.lanes i 0 (omega (arith, c.requires.width)) (omega (arith, c.requires.room))

pub returns-clause-before : goal.returns-clause-before
returns-clause-before c q l = get_or-put_chunk_below c.args.at c.args.sum.now c.args.lanes q 0 l
