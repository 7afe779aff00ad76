use Rattle.std.proofs.Common.{◌+◌, ◌∙◌, get_or, ap, bit_xor, arith}
use Rattle.std.proofs.lemmas.Simd.{length-chunk, get_or-chunk, get_or-put_chunk_at, get_or-put_chunk_below, get_or-put_chunk_above}
use Rattle.gf_linear.specs.Nibbles.{looked_up}
use Rattle.gf_linear.proofs.lists.add_wide.Goals as goal

pub add_looked_up-sums-requires-clause-sums : goal.add_looked_up-sums-requires-clause-sums
add_looked_up-sums-requires-clause-sums c = length-chunk c.args.at 32 c.args.dst.now c.requires.room

pub returns-clause-here : goal.returns-clause-here
returns-clause-here c lows highs h_low h_high i l =
    let at = c.args.at in
    let xs = c.args.dst.now in
    get_or-put_chunk_at at xs c.add_looked_up-sums.result i 0 (omega (arith, c.add_looked_up-sums.ensures.width)) (omega (arith, c.add_looked_up-sums.ensures.width))
    ∙ c.add_looked_up-sums.ensures.value lows highs h_low h_high i l
    ∙ ap (λ x. bit_xor x (looked_up lows highs (get_or c.args.src.now (at + i) 0))) (get_or-chunk at 32 xs i 0 l)

pub returns-clause-before : goal.returns-clause-before
returns-clause-before c p l = get_or-put_chunk_below c.args.at c.args.dst.now _ p 0 l

pub returns-clause-after : goal.returns-clause-after
returns-clause-after c p l = get_or-put_chunk_above c.args.at c.args.dst.now c.add_looked_up-sums.result p 0 (omega (arith, c.add_looked_up-sums.ensures.width))
