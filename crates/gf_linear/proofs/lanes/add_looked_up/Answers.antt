use Rattle.std.proofs.Common.{◌∙◌, get_or, ap, sym, bit_xor, arith}
use Rattle.std.proofs.lemmas.Simd.{length-zip2, get_or-zip2, get_or-chunk}
use Rattle.gf_linear.specs.Nibbles.{looked_up}
use Rattle.gf_linear.proofs.lanes.add_looked_up.Goals as goal

pub returns-clause-width : goal.returns-clause-width
returns-clause-width c = length-zip2 bit_xor c.args.sums c.look_up.result (c.requires.sums ∙ sym c.look_up.ensures.width) ∙ c.requires.sums

pub returns-clause-value : goal.returns-clause-value
returns-clause-value c lows highs h_low h_high i l =
    get_or-zip2 bit_xor c.args.sums c.look_up.result i 0 0 0 (omega (arith, c.requires.sums)) (omega (arith, c.look_up.ensures.width))
    ∙ ap (bit_xor (get_or c.args.sums i 0))
    (c.look_up.ensures.value lows highs h_low h_high i l ∙ ap (looked_up lows highs) (get_or-chunk c.args.at 32 c.args.src.now i 0 l))
