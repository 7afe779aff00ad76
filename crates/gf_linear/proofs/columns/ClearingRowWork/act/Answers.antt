use Rattle.std.proofs.Common.{get_or}
use Rattle.gf_theory.specs.Field.{gf_mul}
use Rattle.gf_linear.proofs.Multiples.{is_plus_multiple}
use Rattle.gf_linear.proofs.columns.ClearingRowWork.act.Goals as goal

pub returns : goal.returns
returns g c =
    let w = c.args.self.now in
    is_plus_multiple (gf_mul (g.F.Field.bits_of w.field.now) (g.F.Field.modulus_of w.field.now)) (get_or c.args.row.now w.col 0) c.args.row.now w.pivot.now c.clear_row.new.row c.clear_row.auto.row c.clear_row.ensures.value
