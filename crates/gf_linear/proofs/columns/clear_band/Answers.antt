use Rattle.gf_theory.specs.Field.{gf_mul}
use Rattle.gf_linear.proofs.Multiples.{rows_ready, rows_multiplied}
use Rattle.gf_linear.proofs.columns.clear_band.Goals as goal

pub each_row-requires-clause-ready : goal.each_row-requires-clause-ready
each_row-requires-clause-ready g c κs within =
    rows_ready (g.F.Field.bits_of c.args.f.now) c.args.rows c.args.cols c.args.col c.args.block.now c.args.pivot.now c.requires.fits c.requires.wide c.requires.col_in c.requires.block_symbols c.requires.pivot_symbols

pub returns : goal.returns
returns g c =
    let f = c.args.f.now in
    rows_multiplied (gf_mul (g.F.Field.bits_of f) (g.F.Field.modulus_of f)) c.args.rows c.args.cols c.args.col c.args.block.now c.each_row.new.table c.args.pivot.now c.requires.fits c.requires.col_in c.each_row.ensures.acted
