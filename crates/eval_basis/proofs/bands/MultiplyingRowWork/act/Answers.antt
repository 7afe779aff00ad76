use Rattle.std.proofs.Common.{length, slice_index}
use Rattle.gf_theory.specs.Field.{gf_mul}
use Rattle.linear_theory.specs.Linear.{combine}
use Rattle.gf_linear.specs.Cells.{cell}
use Rattle.eval_basis.proofs.FlatTables.{is_listed}
use Rattle.eval_basis.proofs.bands.MultiplyingRowWork.act.Goals as goal

pub returns : goal.returns
returns g c =
    let w = c.args.self.now in
    let n = length c.args.row.now in
    is_listed n (combine (gf_mul (g.F.Field.bits_of w.field.now) (g.F.Field.modulus_of w.field.now)) n (slice_index c.args.row.now) (cell w.symbols.now n)) c.multiply_in.new.row c.multiply_in.auto.row c.multiply_in.ensures
