use Rattle.std.proofs.Common.{◌≡◌, ◌+◌, ◌*◌, ◌<◌, ◌≤◌, ◌-◌, ◌^◌, ◌∙◌, length, take, drop, get_or, bit_xor, arith}
use Rattle.std.proofs.lemmas.List.{length-take-le, length-drop}
use Rattle.gf_theory.specs.Field.{gf_mul}
use borrow.Rule.Slice.PartMut.{put_mid}
use Rattle.linear_theory.proofs.Tables.{All-put_mid, row_end}
use Rattle.gf_linear.specs.Cells.{cell}
use Rattle.gf_linear.proofs.Steps.{IsWritten, row_written, row_more, row_rest, part-row, cleared_here}
use Rattle.gf_linear.proofs.rows.clear_rows.Goals as goal

pub loop-q-preserved : goal.loop-q-preserved
loop-q-preserved g c =
    let f = c.args.f.now in
    let b = g.F.Field.bits_of f in
    let m = g.F.Field.modulus_of f in
    let cols = length c.args.pivot.now in
    let q = c.loop-q.q in
    let k = q * cols + cols - q * cols in
    let xs = c.loop-q.block in
    let ys = c.clear_row.new.row in
    let rs = take k (drop (q * cols) xs) in
    let wide : k ≡ cols = omega arith in
    let fits : length xs ≡ c.args.rows * cols = c.loop-q.auto.block ∙ c.requires.fits in
    let room : q * cols + cols ≤ length xs = row_end c.args.rows cols q (length xs) c.loop-q-test.true fits in
    let long : length rs ≡ k = length-take-le k (drop (q * cols) xs) (rw length-drop (omega arith)) in
    let w : IsWritten cols q xs (put_mid (q * cols) k xs ys) ys = row_written c.args.rows cols q k xs ys c.loop-q-test.true fits wide (c.clear_row.auto.row ∙ long) in
    record {
      symbols = All-put_mid (λ a. a < 2 ^ b) (q * cols) k xs ys c.loop-q.invariant.symbols c.clear_row.ensures.symbols (omega arith) (c.clear_row.auto.row ∙ long);
      done = row_more cols q xs (put_mid (q * cols) k xs ys) ys (λ i p. bit_xor (cell c.args.block.now cols i p) (gf_mul b m (cell c.args.block.now cols i c.args.col) (get_or c.args.pivot.now p 0)))
          w c.loop-q.invariant.done
          (cleared_here b m cols c.args.col q c.args.block.now xs rs ys c.args.pivot.now c.requires.col_in (long ∙ wide) (λ p l. part-row cols q k xs p wide l) c.loop-q.invariant.rest c.clear_row.ensures.value);
      rest = row_rest cols q c.args.block.now xs (put_mid (q * cols) k xs ys) ys w c.loop-q.invariant.rest;
    }
