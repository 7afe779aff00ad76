use Rattle.std.proofs.Common.{◌≡◌, ◌+◌, ◌*◌, ◌++◌, ◌∙◌, length, arith}
use Rattle.gf_linear.proofs.Steps.{IsCut, cut_of, cut_at, bands_cleared, rest_of_rows}
use Rattle.gf_linear.proofs.columns.clear_in_threads.Goals as goal

pub clear_band-requires-2-clause-fits : goal.clear_band-requires-2-clause-fits
clear_band-requires-2-clause-fits g c κs within =
    let h : length c.split_at_mut-pivot.result.1.now + c.args.cols ≡ length c.split_at_mut-above.result.1.now = c.split_at_mut-pivot.ensures.back_len in
    let k : length c.split_at_mut-above.result.1.now + c.args.k * c.args.cols ≡ length c.args.m.now = c.split_at_mut-above.ensures.back_len in
    rest_of_rows c.args.rows c.args.cols c.args.k (length c.split_at_mut-pivot.result.1.now) c.requires.k_in (omega (arith, c.requires.fits))

pub returns-clause-value : goal.returns-clause-value
returns-clause-value g c =
    let f = c.args.f.now in
    let above = c.split_at_mut-above.result.0.now in
    let here = c.split_at_mut-pivot.result.0.now in
    let below = c.split_at_mut-pivot.result.1.now in
    let above2 = c.clear_band.new.block in
    let below2 = c.clear_band-2.new.block in
    let was : IsCut c.args.cols c.args.k c.args.m.now above here below =
    cut_at c.args.cols c.args.k c.args.m.now above here below c.split_at_mut-above.result.1.now c.split_at_mut-above.ensures.value c.split_at_mut-pivot.ensures.value c.split_at_mut-above.ensures.front_len c.split_at_mut-pivot.ensures.front_len in
    bands_cleared (g.F.Field.bits_of f) (g.F.Field.modulus_of f) c.args.rows c.args.cols c.args.k c.args.col c.args.m.now (above2 ++ (here ++ below2)) above here below above2 below2
    c.requires.col_in was (cut_of c.args.cols c.args.k above2 here below2 (c.clear_band.auto.block ∙ c.split_at_mut-above.ensures.front_len) c.split_at_mut-pivot.ensures.front_len)
    c.clear_band.ensures c.clear_band-2.ensures
