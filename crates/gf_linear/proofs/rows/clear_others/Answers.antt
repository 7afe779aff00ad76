use Rattle.std.proofs.Common.{◌≡◌, ◌+◌, ◌*◌, ◌<◌, ◌^◌, ◌++◌, ◌∙◌, length, arith}
use Rattle.gf_linear.proofs.Steps.{IsCut, cut_of, cut_at, others_cleared, rest_of_rows, All-cut, All-here}
use Rattle.gf_linear.proofs.rows.clear_others.Goals as goal

pub clear_rows-requires-2-clause-fits : goal.clear_rows-requires-2-clause-fits
clear_rows-requires-2-clause-fits g c =
    let e : length c.split_at_mut-pivot.result.0.now ≡ c.args.cols = c.split_at_mut-pivot.ensures.front_len in
    let h : length c.split_at_mut-pivot.result.1.now + c.args.cols ≡ length c.split_at_mut-above.result.1.now = c.split_at_mut-pivot.ensures.back_len in
    let k : length c.split_at_mut-above.result.1.now + c.args.k * c.args.cols ≡ length c.args.m.now = c.split_at_mut-above.ensures.back_len in
    rw e (rest_of_rows c.args.rows c.args.cols c.args.k (length c.split_at_mut-pivot.result.1.now) c.requires.k_in (omega (arith, c.requires.fits)))

pub returns-clause-value : goal.returns-clause-value
returns-clause-value g c =
    let f = c.args.f.now in
    let above = c.split_at_mut-above.result.0.now in
    let here = c.split_at_mut-pivot.result.0.now in
    let below = c.split_at_mut-pivot.result.1.now in
    let above2 = c.clear_rows.new.block in
    let below2 = c.clear_rows-2.new.block in
    let was : IsCut c.args.cols c.args.k c.args.m.now above here below =
    cut_at c.args.cols c.args.k c.args.m.now above here below c.split_at_mut-above.result.1.now c.split_at_mut-above.ensures.value c.split_at_mut-pivot.ensures.value c.split_at_mut-above.ensures.front_len c.split_at_mut-pivot.ensures.front_len in
    others_cleared (g.F.Field.bits_of f) (g.F.Field.modulus_of f) c.args.rows c.args.cols c.args.k c.args.col c.args.m.now (above2 ++ (here ++ below2)) above here below above2 below2
    c.requires.col_in was (cut_of c.args.cols c.args.k above2 here below2 (c.clear_rows.auto.block ∙ c.split_at_mut-above.ensures.front_len) c.split_at_mut-pivot.ensures.front_len) c.split_at_mut-pivot.ensures.front_len
    c.clear_rows.ensures.value c.clear_rows-2.ensures.value

pub returns-clause-symbols : goal.returns-clause-symbols
returns-clause-symbols g c =
    let f = c.args.f.now in
    All-cut (λ a. a < 2 ^ g.F.Field.bits_of f) c.clear_rows.new.block c.split_at_mut-pivot.result.0.now c.clear_rows-2.new.block c.clear_rows.ensures.symbols
    (All-here (λ a. a < 2 ^ g.F.Field.bits_of f) c.args.m.now c.split_at_mut-above.result.0.now c.split_at_mut-pivot.result.0.now c.split_at_mut-pivot.result.1.now c.split_at_mut-above.result.1.now c.split_at_mut-above.ensures.value c.split_at_mut-pivot.ensures.value c.requires.symbols)
    c.clear_rows-2.ensures.symbols
