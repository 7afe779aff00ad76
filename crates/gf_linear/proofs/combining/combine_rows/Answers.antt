use Rattle.std.proofs.Common.{length}
use Rattle.gf_linear.proofs.Combinations.{combined_symbols}
use Rattle.gf_linear.proofs.combining.combine_rows.Goals as goal

pub returns-then-sum-lt32-clause-symbols : goal.returns-then-sum-lt32-clause-symbols
returns-then-sum-lt32-clause-symbols g c =
    combined_symbols (g.F.Field.bits_of c.args.f.now) (g.F.Field.modulus_of c.args.f.now) (length c.args.factors.now) (length c.args.sum.now) c.args.factors.now c.args.rows.now c.combine_singly.new.sum
    c.bits.ensures.field c.combine_singly.auto.sum c.combine_singly.ensures.value

pub returns-then-sum-lt128-clause-symbols : goal.returns-then-sum-lt128-clause-symbols
returns-then-sum-lt128-clause-symbols g c =
    combined_symbols (g.F.Field.bits_of c.args.f.now) (g.F.Field.modulus_of c.args.f.now) (length c.args.factors.now) (length c.args.sum.now) c.args.factors.now c.args.rows.now c.combine_by_lanes.new.sum
    c.bits.ensures.field c.combine_by_lanes.ensures.length c.combine_by_lanes.ensures.value

pub returns-else-sum-lt128-clause-symbols : goal.returns-else-sum-lt128-clause-symbols
returns-else-sum-lt128-clause-symbols g c =
    combined_symbols (g.F.Field.bits_of c.args.f.now) (g.F.Field.modulus_of c.args.f.now) (length c.args.factors.now) (length c.args.sum.now) c.args.factors.now c.args.rows.now c.combine_by_blocks.new.sum
    c.bits.ensures.field c.combine_by_blocks.ensures.length c.combine_by_blocks.ensures.value
