use Rattle.std.proofs.Common.{ℕ, ◌≡◌, ◌*◌, length, slice_index, arith}
use Rattle.linear_theory.specs.Linear.{combine}
use Rattle.gf_theory.specs.Field.{gf_mul}
use Rattle.gf_linear.specs.Cells.{cell}
use Rattle.gf_linear.proofs.Combinations.{columns_more}
use Rattle.gf_linear.proofs.combining.combine_by_blocks.Goals as goal

pub loop-b-preserved : goal.loop-b-preserved
loop-b-preserved g c =
    let field = c.args.f.now in
    let b = g.F.Field.bits_of field in
    let m = g.F.Field.modulus_of field in
    let at = c.min-at.result in
    let f : ℕ → ℕ = combine (gf_mul b m) (length c.args.factors.now) (slice_index c.args.factors.now) (cell c.args.rows.now (length c.args.sum.now)) in
    let long : length c.loop-b.sum ≡ length c.args.sum.now = c.loop-b.auto.sum in
    record {
      done = λ q l within. columns_more 128 (c.loop-b.b * 128) at f c.loop-b.sum c.put_block.new.sum (λ p a k. c.loop-b.invariant.done p a (omega arith)) (omega arith) (omega arith)
          c.put_block.ensures.before (c.put_block.ensures.value f c.block_sums-sums.ensures.first c.block_sums-sums.ensures.second c.block_sums-sums.ensures.third c.block_sums-sums.ensures.fourth) q (omega arith);
    }
