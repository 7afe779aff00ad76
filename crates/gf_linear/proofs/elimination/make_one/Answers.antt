use Rattle.std.proofs.Common.{◌≡◌, ◌∙◌, ◌+◌, ◌*◌, ◌-◌, ◌^◌, ◌<◌, ◌≤◌, length, take, drop, arith}
use borrow.Rule.Slice.PartMut.{put_mid}
use Rattle.field_theory.specs.Field.{IsField}
use Rattle.gf_theory.specs.Field.{gf_mul}
use Rattle.gf_theory.proofs.Fields.{field_of_bits}
use Rattle.gf_theory.proofs.Product.{gf_mul_comm}
use Rattle.linear_theory.proofs.Tables.{All-put_mid, row_end}
use Rattle.linear_theory.proofs.Steps.{span_after_scale}
use Rattle.gf_linear.specs.Cells.{cell}
use Rattle.gf_linear.proofs.Forms.{cells_below, scaled_zeros, inverse_some}
use Rattle.gf_linear.proofs.Steps.{IsWritten, row_written, scaled_row, written_kept, part-length}
use Rattle.gf_linear.proofs.elimination.make_one.Goals as goal

pub returns-clause-one : goal.returns-clause-one
returns-clause-one g c =
    let f = c.args.f.now in
    let b = g.F.Field.bits_of f in
    let m = g.F.Field.modulus_of f in
    let xs = c.args.m.now in
    let ys = c.scale_row.new.row in
    let cols = c.args.cols in
    let k = c.args.k in
    let s = k * cols + cols - k * cols in
    let wide : s ≡ cols = omega arith in
    let long : length (take s (drop (k * cols) xs)) ≡ s = part-length c.args.rows cols k s xs c.requires.k_in c.requires.fits wide in
    let w : IsWritten cols k xs (put_mid (k * cols) s xs ys) ys = row_written c.args.rows cols k s xs ys c.requires.k_in c.requires.fits wide (c.scale_row.auto.row ∙ long) in
    scaled_row b m cols k s c.inv-inverse.result xs (put_mid (k * cols) s xs ys) ys wide (long ∙ wide) w c.scale_row.ensures.value c.args.j c.requires.j_in
    ∙ gf_mul_comm b m c.inv-inverse.result (cell xs cols k c.args.j) ∙ c.inv-inverse.ensures.inverse

pub returns-clause-zeros : goal.returns-clause-zeros
returns-clause-zeros g c =
    let f = c.args.f.now in
    let b = g.F.Field.bits_of f in
    let m = g.F.Field.modulus_of f in
    let xs = c.args.m.now in
    let ys = c.scale_row.new.row in
    let cols = c.args.cols in
    let k = c.args.k in
    let s = k * cols + cols - k * cols in
    let wide : s ≡ cols = omega arith in
    let long : length (take s (drop (k * cols) xs)) ≡ s = part-length c.args.rows cols k s xs c.requires.k_in c.requires.fits wide in
    let w : IsWritten cols k xs (put_mid (k * cols) s xs ys) ys = row_written c.args.rows cols k s xs ys c.requires.k_in c.requires.fits wide (c.scale_row.auto.row ∙ long) in
    scaled_zeros (2 ^ b) (gf_mul b m) (field_of_bits b m (g.met.F.Field.is_modulus f)) c.args.rows cols k c.args.j c.inv-inverse.result xs (put_mid (k * cols) s xs ys) c.requires.j_in c.requires.zeros
    (scaled_row b m cols k s c.inv-inverse.result xs (put_mid (k * cols) s xs ys) ys wide (long ∙ wide) w c.scale_row.ensures.value) (written_kept c.args.rows cols k xs (put_mid (k * cols) s xs ys) ys w)

pub returns-clause-kept : goal.returns-clause-kept
returns-clause-kept g c =
    let xs = c.args.m.now in
    let ys = c.scale_row.new.row in
    let cols = c.args.cols in
    let k = c.args.k in
    let s = k * cols + cols - k * cols in
    let wide : s ≡ cols = omega arith in
    let long : length (take s (drop (k * cols) xs)) ≡ s = part-length c.args.rows cols k s xs c.requires.k_in c.requires.fits wide in
    written_kept c.args.rows cols k xs (put_mid (k * cols) s xs ys) ys (row_written c.args.rows cols k s xs ys c.requires.k_in c.requires.fits wide (c.scale_row.auto.row ∙ long))

pub returns-clause-span : goal.returns-clause-span
returns-clause-span g c =
    let f = c.args.f.now in
    let b = g.F.Field.bits_of f in
    let m = g.F.Field.modulus_of f in
    let field : IsField (2 ^ b) (gf_mul b m) = field_of_bits b m (g.met.F.Field.is_modulus f) in
    let xs = c.args.m.now in
    let ys = c.scale_row.new.row in
    let cols = c.args.cols in
    let k = c.args.k in
    let s = k * cols + cols - k * cols in
    let xs2 = put_mid (k * cols) s xs ys in
    let wide : s ≡ cols = omega arith in
    let long : length (take s (drop (k * cols) xs)) ≡ s = part-length c.args.rows cols k s xs c.requires.k_in c.requires.fits wide in
    let room : k * cols + s ≤ length xs = (let h : k * cols + cols ≤ length xs = row_end c.args.rows cols k (length xs) c.requires.k_in c.requires.fits in omega arith) in
    let w : IsWritten cols k xs xs2 ys = row_written c.args.rows cols k s xs ys c.requires.k_in c.requires.fits wide (c.scale_row.auto.row ∙ long) in
    span_after_scale (2 ^ b) (gf_mul b m) field cols (cell xs cols) (cell xs2 cols) c.args.rows k c.inv-inverse.result
    (cells_below b xs cols c.requires.symbols) (cells_below b xs2 cols (All-put_mid (λ a. a < 2 ^ b) (k * cols) s xs ys c.requires.symbols c.scale_row.ensures.symbols room (c.scale_row.auto.row ∙ long)))
    c.requires.k_in c.inv-inverse.ensures.result_element (inverse_some (2 ^ b) (gf_mul b m) field (cell xs cols k c.args.j) c.inv-inverse.result c.inv-inverse.ensures.inverse)
    (scaled_row b m cols k s c.inv-inverse.result xs xs2 ys wide (long ∙ wide) w c.scale_row.ensures.value) (λ q l d j lj. w.others q j d lj)

pub returns-clause-symbols : goal.returns-clause-symbols
returns-clause-symbols g c =
    let b = g.F.Field.bits_of c.args.f.now in
    let xs = c.args.m.now in
    let ys = c.scale_row.new.row in
    let cols = c.args.cols in
    let k = c.args.k in
    let s = k * cols + cols - k * cols in
    let wide : s ≡ cols = omega arith in
    let long : length (take s (drop (k * cols) xs)) ≡ s = part-length c.args.rows cols k s xs c.requires.k_in c.requires.fits wide in
    let room : k * cols + s ≤ length xs = (let h : k * cols + cols ≤ length xs = row_end c.args.rows cols k (length xs) c.requires.k_in c.requires.fits in omega arith) in
    All-put_mid (λ a. a < 2 ^ b) (k * cols) s xs ys c.requires.symbols c.scale_row.ensures.symbols room (c.scale_row.auto.row ∙ long)
