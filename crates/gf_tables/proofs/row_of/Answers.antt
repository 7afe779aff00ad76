use Rattle.std.proofs.Common.{◌≡◌, ◌<◌, length, length-set, arith}
use Rattle.gf_theory.specs.Field.{gf_mul}
use Rattle.gf_tables.proofs.Entries.{entries_more}
use Rattle.gf_tables.proofs.row_of.Goals as goal

pub loop-y-preserved : goal.loop-y-preserved
loop-y-preserved c =
    let within : c.loop-y.y < length c.loop-y.row = omega arith in record {
      length = rw length-set c.loop-y.invariant.length;
      made =
          entries_more (λ q v. v ≡ gf_mul c.args.field.now.bits c.args.field.now.modulus c.args.x q) c.loop-y.row c.loop-y.y c.mul.result within
          c.loop-y.invariant.made c.mul.ensures.product;
    }
