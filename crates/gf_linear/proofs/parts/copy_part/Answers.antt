use Rattle.std.proofs.Common.{ℕ, ◌≡◌, ◌+◌, ◌*◌, ◌-◌, ◌∙◌, ap, length, get_or, List, arith}
use Rattle.std.proofs.lemmas.List.{get_or-take}
use borrow.Rule.Slice.PartMut.{put_mid}
use Rattle.gf_linear.specs.Matrix.{entry}
use Rattle.gf_linear.proofs.Steps.{IsWritten, row_written, row_more, part-length}
use Rattle.gf_linear.proofs.parts.copy_part.Goals as goal

pub loop-i-preserved : goal.loop-i-preserved
loop-i-preserved c =
    let cols = c.args.cols in
    let i = c.loop-i.i in
    let k = i * cols + cols - i * cols in
    let xs = c.loop-i.part in
    let ys = c.copy_from_slice.new.self in
    let e : k ≡ cols = omega arith in
    let fits : length xs ≡ c.args.rows * cols = c.loop-i.auto.part ∙ c.requires.fits in
    let long : length ys ≡ k = c.copy_from_slice.auto.self ∙ part-length c.args.rows cols i k xs c.loop-i-test.true fits e in
    let w : IsWritten cols i xs (put_mid (i * cols) k xs ys) ys = row_written c.args.rows cols i k xs ys c.loop-i-test.true fits e long in
    row_more cols i xs (put_mid (i * cols) k xs ys) ys (entry c.args.m.now) w c.loop-i.invariant
    (λ p l. ap (λ (z : List ℕ). get_or z p 0) c.copy_from_slice.ensures.after ∙ get_or-take cols c.row.result.now p 0 l ∙ ap (λ (z : List ℕ). get_or z p 0) c.row.ensures.row)
