use Rattle.std.proofs.Common.{◌≡◌, ◌+◌, ◌*◌, ◌-◌, ◌∙◌, length, take, drop, get_or, refl, arith}
use borrow.Rule.Slice.PartMut.{put_mid}
use Rattle.gf_linear.specs.Cells.{cell}
use Rattle.gf_linear.specs.Elimination.{beside_column}
use Rattle.gf_linear.proofs.Steps.{IsWritten, row_written, row_more, part-row, part-length}
use Rattle.gf_linear.proofs.Sides.{column_row}
use Rattle.gf_linear.proofs.solutions.join_sides.Goals as goal

pub loop-i-preserved : goal.loop-i-preserved
loop-i-preserved c =
    let n = c.args.cols in
    let rows = length c.args.rhs.now in
    let cols = n + 1 in
    let i = c.loop-i.i in
    let k = i * cols + cols - i * cols in
    let s = i * n + n - i * n in
    let xs = c.loop-i.joined in
    let ys = c.join_side.new.row in
    let left = take s (drop (i * n) c.args.entries.now) in
    let wide : k ≡ cols = omega arith in
    let narrow : s ≡ n = omega arith in
    let fits : length xs ≡ rows * cols = c.loop-i.auto.joined ∙ c.requires.wide in
    let long : length (take k (drop (i * cols) xs)) ≡ k = part-length rows cols i k xs c.loop-i-test.true fits wide in
    let short : length left ≡ s = part-length rows n i s c.args.entries.now c.loop-i-test.true c.requires.fits narrow in
    let w : IsWritten cols i xs (put_mid (i * cols) k xs ys) ys = row_written rows cols i k xs ys c.loop-i-test.true fits wide (c.join_side.auto.row ∙ long) in
    row_more cols i xs (put_mid (i * cols) k xs ys) ys (beside_column (cell c.args.entries.now n) n (λ q. get_or c.args.rhs.now q 0)) w c.loop-i.invariant
    (λ p l. c.join_side.ensures p (omega arith) ∙ column_row (cell c.args.entries.now n) (λ q. get_or left q 0) (length left) n (λ q. get_or c.args.rhs.now q 0) i p (get_or c.args.rhs.now i 0) (short ∙ narrow) (λ q lq. part-row n i s c.args.entries.now q narrow lq) refl)
