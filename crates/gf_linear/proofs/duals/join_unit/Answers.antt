use Rattle.std.proofs.Common.{◌≡◌, ◌+◌, ◌*◌, ◌-◌, ◌∙◌, length, take, drop, get_or, arith}
use borrow.Rule.Slice.PartMut.{put_mid}
use Rattle.gf_linear.specs.Cells.{cell}
use Rattle.gf_linear.specs.Elimination.{beside_unit}
use Rattle.gf_linear.proofs.Steps.{IsWritten, row_written, row_more, part-row, part-length}
use Rattle.gf_linear.proofs.Joins.{beside_row}
use Rattle.gf_linear.proofs.duals.join_unit.Goals as goal

pub loop-i-preserved : goal.loop-i-preserved
loop-i-preserved c =
    let n = c.args.n in
    let cols = n + n in
    let i = c.loop-i.i in
    let k = i * cols + cols - i * cols in
    let s = i * n + n - i * n in
    let xs = c.loop-i.joined in
    let ys = c.join_row.new.row in
    let left = take s (drop (i * n) c.args.entries.now) in
    let wide : k ≡ cols = omega arith in
    let narrow : s ≡ n = omega arith in
    let fits : length xs ≡ n * cols = c.loop-i.auto.joined ∙ c.requires.wide in
    let long : length (take k (drop (i * cols) xs)) ≡ k = part-length n cols i k xs c.loop-i-test.true fits wide in
    let short : length left ≡ s = part-length n n i s c.args.entries.now c.loop-i-test.true c.requires.fits narrow in
    let w : IsWritten cols i xs (put_mid (i * cols) k xs ys) ys = row_written n cols i k xs ys c.loop-i-test.true fits wide (c.join_row.auto.row ∙ long) in
    row_more cols i xs (put_mid (i * cols) k xs ys) ys (beside_unit (cell c.args.entries.now n) n) w c.loop-i.invariant
    (λ p l. c.join_row.ensures p (omega arith) ∙ beside_row (cell c.args.entries.now n) (λ q. get_or left q 0) (length left) n i p (short ∙ narrow) (λ q lq. part-row n i s c.args.entries.now q narrow lq))
