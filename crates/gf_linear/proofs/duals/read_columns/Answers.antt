use Rattle.std.proofs.Common.{ℕ, ◌≡◌, ◌+◌, ◌*◌, ◌<◌, ◌-◌, ◌∙◌, length, take, drop, get_or, subst, arith}
use borrow.Rule.Slice.PartMut.{put_mid}
use Rattle.gf_linear.specs.Cells.{cell}
use Rattle.gf_linear.proofs.Steps.{IsWritten, row_written, row_more, part-length}
use Rattle.gf_linear.proofs.duals.read_columns.Goals as goal

pub loop-i-preserved : goal.loop-i-preserved
loop-i-preserved c =
    let n = c.args.n in
    let i = c.loop-i.i in
    let k = i * n + n - i * n in
    let xs = c.loop-i.entries in
    let ys = c.read_column.new.row in
    let wide : k ≡ n = omega arith in
    let fits : length xs ≡ n * n = c.loop-i.auto.entries ∙ c.requires.room in
    let long : length (take k (drop (i * n) xs)) ≡ k = part-length n n i k xs c.loop-i-test.true fits wide in
    let w : IsWritten n i xs (put_mid (i * n) k xs ys) ys = row_written n n i k xs ys c.loop-i-test.true fits wide (c.read_column.auto.row ∙ long) in
    let read : (j : ℕ) → j < n → get_or ys j 0 ≡ cell c.args.joined.now (n + n) j (n + i) =
    subst (λ (z : ℕ). (j : ℕ) → j < z → get_or ys j 0 ≡ cell c.args.joined.now (z + z) j (z + i)) (long ∙ wide) c.read_column.ensures in
    row_more n i xs (put_mid (i * n) k xs ys) ys (λ q j. cell c.args.joined.now (n + n) j (n + q)) w c.loop-i.invariant read
