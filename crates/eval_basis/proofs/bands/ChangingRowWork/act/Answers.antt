use Rattle.std.proofs.Common.{length, slice_index}
use Rattle.gf_theory.specs.Field.{gf_mul}
use Rattle.eval_basis.specs.Lists.{after_takes}
use Rattle.eval_basis.proofs.FlatTables.{is_listed}
use Rattle.eval_basis.proofs.bands.ChangingRowWork.act.Goals as goal

pub returns : goal.returns
returns g c =
    let w = c.args.self.now in
    let n = length c.args.row.now in
    is_listed n (after_takes (gf_mul (g.F.Field.bits_of w.field.now) (g.F.Field.modulus_of w.field.now)) n w.numbers.now w.factors.now w.products.now (length w.numbers.now) (slice_index c.args.row.now)) c.take_all.new.row c.take_all.auto.row c.take_all.ensures.value
