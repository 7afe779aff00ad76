use Rattle.std.proofs.Common.{ℕ, ◌<◌, ◌^◌, length, slice_index, subst, sym, arith}
use Rattle.std.proofs.lemmas.Nat.{pow_pos}
use Rattle.gf_linear.proofs.BitPasses.{bit_symbol-below, part_below, product_start, product_next, product_end}
use Rattle.gf_linear.proofs.lists.dot.Goals as goal

pub loop-bit-init : goal.loop-bit-init
loop-bit-init g c = record {
  symbol = pow_pos (g.F.Field.bits_of c.args.f.now);
  so_far =
      product_start (g.F.Field.bits_of c.args.f.now) (g.F.Field.modulus_of c.args.f.now) c.bits-bit-end.ensures.field
      (length c.args.x.now) (slice_index c.args.x.now) (slice_index c.args.y.now);
}

pub mul-requires-clause-left : goal.mul-requires-clause-left
mul-requires-clause-left g c =
    bit_symbol-below (g.F.Field.bits_of c.args.f.now) c.loop-bit.bit (omega arith) c.bits-bit-end.ensures.field.at_most_eight

pub mul-requires-clause-right : goal.mul-requires-clause-right
mul-requires-clause-right g c =
    subst (λ (v : ℕ). v < 2 ^ g.F.Field.bits_of c.args.f.now) (sym c.sum_where-part.ensures)
    (part_below (g.F.Field.bits_of c.args.f.now) (g.F.Field.modulus_of c.args.f.now) c.bits-bit-end.ensures.field
    (length c.args.x.now) (slice_index c.args.x.now) (slice_index c.args.y.now) c.loop-bit.bit
    (λ q l. c.requires.right q 0 (omega arith)))

pub loop-bit-preserved : goal.loop-bit-preserved
loop-bit-preserved g c = record {
  symbol = c.add-sum.ensures.element;
  so_far =
      product_next (g.F.Field.bits_of c.args.f.now) (g.F.Field.modulus_of c.args.f.now) c.bits-bit-end.ensures.field
      (length c.args.x.now) (slice_index c.args.x.now) (slice_index c.args.y.now) c.loop-bit.bit c.loop-bit.sum _ _ _
      (omega arith) c.bits-bit-end.ensures.field.at_most_eight c.sum_where-part.ensures c.mul.ensures.product c.loop-bit.invariant.so_far
      c.add-sum.ensures.sum;
}

pub returns-clause-value : goal.returns-clause-value
returns-clause-value g c =
    product_end (g.F.Field.bits_of c.args.f.now) (g.F.Field.modulus_of c.args.f.now) c.bits-bit-end.ensures.field
    (length c.args.x.now) (slice_index c.args.x.now) (slice_index c.args.y.now) c.loop-bit.bit c.loop-bit.sum (omega arith)
    (λ q l. c.requires.left q 0 l) c.loop-bit.invariant.so_far
