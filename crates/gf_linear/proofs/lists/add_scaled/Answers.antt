use Rattle.std.proofs.Common.{◌∙◌, get_or, ap, arith, bit_xor}
use Rattle.gf_linear.proofs.BitPasses.{multiple_none, multiple_symbols}
use Rattle.gf_linear.proofs.Sixteens.{looked_up-product}
use Rattle.gf_linear.proofs.lists.add_scaled.Goals as goal

pub returns-then-c-eq0-clause-value : goal.returns-then-c-eq0-clause-value
returns-then-c-eq0-clause-value g c p l = rw c.if-c-eq0.true (multiple_none _ _ _ _)

pub returns-clause-value : goal.returns-clause-value
returns-clause-value g c p l =
    c.add_multiples.ensures.value p l
    ∙ ap (bit_xor (get_or c.args.dst.now p 0))
    (looked_up-product (g.F.Field.bits_of c.args.f.now) (g.F.Field.modulus_of c.args.f.now) c.args.c (get_or c.args.src.now p 0) c.multiples.result.low c.multiples.result.high
    (c.requires.source p 0 (omega arith)) c.multiples.ensures.lows c.multiples.ensures.highs)

pub returns-clause-symbols : goal.returns-clause-symbols
returns-clause-symbols g c =
    multiple_symbols (g.F.Field.bits_of c.args.f.now) (g.F.Field.modulus_of c.args.f.now) c.args.c
    c.args.dst.now c.add_multiples.new.dst c.args.src.now (omega arith) c.requires.target (returns-clause-value g c)
