use Rattle.std.proofs.Common.{◌≡◌, ◌<◌, ◌^◌, length, length-set, arith}
use Rattle.gf_theory.specs.Field.{gf_mul}
use Rattle.gf_tables.proofs.Entries.{entries_more}
use Rattle.gf_tables.proofs.inverses_of.Goals as goal

pub loop-x-preserved : goal.loop-x-preserved
loop-x-preserved c =
    let f = c.args.field.now in
    let within : c.loop-x.x < length c.loop-x.inverses = omega arith in record {
      length = rw length-set c.loop-x.invariant.length;
      element = λ q pos l.
          entries_more (λ q v. 0 < q → v < 2 ^ f.bits) c.loop-x.inverses c.loop-x.x c.inv.result within
          (λ q l pos. c.loop-x.invariant.element q pos l) (λ _. c.inv.ensures.result_element) q l pos;
      inverse = λ q pos l.
          entries_more (λ q v. 0 < q → gf_mul f.bits f.modulus q v ≡ 1) c.loop-x.inverses c.loop-x.x c.inv.result within
          (λ q l pos. c.loop-x.invariant.inverse q pos l) (λ _. c.inv.ensures.inverse) q l pos;
    }
