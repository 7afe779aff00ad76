use Rattle.std.proofs.Common.{◌+◌, ◌∙◌, get_or, ap, bit_xor}
use Rattle.std.proofs.lemmas.Simd.{get_or-chunk, get_or-put_chunk_below}
use Rattle.gf_linear.specs.Nibbles.{looked_up}
use Rattle.gf_linear.proofs.Wides.{lanes_here, lanes_after}
use Rattle.gf_linear.proofs.lists.add_sixteen.Goals as goal

pub returns-clause-here : goal.returns-clause-here
returns-clause-here c i l =
    let at = c.args.at in
    let xs = c.args.dst.now in
    lanes_here 16 at xs c.look_up.result c.requires.room c.look_up.ensures.width i l
    ∙ ap (bit_xor (get_or xs (at + i) 0))
    (c.look_up.ensures.value i l ∙ ap (looked_up c.args.low c.args.high) (get_or-chunk at 16 c.args.src.now i 0 l))

pub returns-clause-before : goal.returns-clause-before
returns-clause-before c p l = get_or-put_chunk_below c.args.at c.args.dst.now _ p 0 l

pub returns-clause-after : goal.returns-clause-after
returns-clause-after c p l = lanes_after 16 c.args.at c.args.dst.now c.look_up.result c.requires.room c.look_up.ensures.width p l
