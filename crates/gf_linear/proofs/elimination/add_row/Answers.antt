use Rattle.std.proofs.Common.{ℕ, ◌≡◌, ◌+◌, ◌*◌, ◌<◌, ◌≤◌, ◌-◌, ◌^◌, ◌++◌, ◌∙◌, length, arith}
use Rattle.std.proofs.lemmas.Nat.{pow_below}
use Rattle.linear_theory.proofs.Tables.{row_end}
use Rattle.gf_theory.specs.Field.{IsModulus}
use Rattle.gf_linear.proofs.Steps.{IsCut, cut_of, cut_at, cut_kept, added_row, rest_of_rows, All-cut, All-above, All-below, All-part}
use Rattle.gf_linear.proofs.elimination.add_row.Goals as goal

pub slice_bounds-add_scaled-end : goal.slice_bounds-add_scaled-end
slice_bounds-add_scaled-end g c =
    let h : length c.split_at_mut-row.result.1.now + c.args.cols ≡ length c.split_at_mut-above.result.1.now = c.split_at_mut-row.ensures.back_len in
    let k : length c.split_at_mut-above.result.1.now + c.args.k * c.args.cols ≡ length c.args.m.now = c.split_at_mut-above.ensures.back_len in
    let e : length c.split_at_mut-row.result.1.now ≡ (c.args.rows - c.args.k - 1) * c.args.cols =
    rest_of_rows c.args.rows c.args.cols c.args.k (length c.split_at_mut-row.result.1.now) (omega arith) (omega (arith, c.requires.fits)) in
    let l : (c.args.p - c.args.k - 1) * c.args.cols + c.args.cols ≤ length c.split_at_mut-row.result.1.now =
    row_end (c.args.rows - c.args.k - 1) c.args.cols (c.args.p - c.args.k - 1) (length c.split_at_mut-row.result.1.now) (omega arith) e in
    omega arith

pub add_scaled-requires-clause-factor : goal.add_scaled-requires-clause-factor
add_scaled-requires-clause-factor g c =
    let f = c.args.f.now in
    let h : IsModulus (g.F.Field.bits_of f) (g.F.Field.modulus_of f) = g.met.F.Field.is_modulus f in
    let l : 2 ^ 0 < 2 ^ g.F.Field.bits_of f = pow_below 0 (g.F.Field.bits_of f) (omega (arith, h.at_least_two)) in
    l

pub add_scaled-requires-clause-source : goal.add_scaled-requires-clause-source
add_scaled-requires-clause-source g c =
    let P : ℕ → Type 0 = λ a. a < 2 ^ g.F.Field.bits_of c.args.f.now in
    All-part P ((c.args.p - c.args.k - 1) * c.args.cols) ((c.args.p - c.args.k - 1) * c.args.cols + c.args.cols - (c.args.p - c.args.k - 1) * c.args.cols) c.split_at_mut-row.result.1.now
    (All-below P c.split_at_mut-above.result.1.now c.split_at_mut-row.result.0.now c.split_at_mut-row.result.1.now c.split_at_mut-row.ensures.value
    (All-below P c.args.m.now c.split_at_mut-above.result.0.now c.split_at_mut-above.result.1.now c.split_at_mut-above.ensures.value c.requires.symbols))

pub returns-clause-row : goal.returns-clause-row
returns-clause-row g c =
    let f = c.args.f.now in
    let above = c.split_at_mut-above.result.0.now in
    let here = c.split_at_mut-row.result.0.now in
    let below = c.split_at_mut-row.result.1.now in
    let s = (c.args.p - c.args.k - 1) * c.args.cols + c.args.cols - (c.args.p - c.args.k - 1) * c.args.cols in
    let was : IsCut c.args.cols c.args.k c.args.m.now above here below =
    cut_at c.args.cols c.args.k c.args.m.now above here below c.split_at_mut-above.result.1.now c.split_at_mut-above.ensures.value c.split_at_mut-row.ensures.value c.split_at_mut-above.ensures.front_len c.split_at_mut-row.ensures.front_len in
    added_row (g.F.Field.bits_of f) (g.F.Field.modulus_of f) c.args.rows c.args.cols c.args.k c.args.p s c.args.m.now (above ++ (c.add_scaled.new.dst ++ below)) above here c.add_scaled.new.dst below
    c.requires.above (omega arith) c.split_at_mut-row.ensures.front_len was
    (cut_of c.args.cols c.args.k above c.add_scaled.new.dst below c.split_at_mut-above.ensures.front_len (c.add_scaled.auto.dst ∙ c.split_at_mut-row.ensures.front_len)) c.add_scaled.ensures.value

pub returns-clause-kept : goal.returns-clause-kept
returns-clause-kept g c =
    let above = c.split_at_mut-above.result.0.now in
    let here = c.split_at_mut-row.result.0.now in
    let below = c.split_at_mut-row.result.1.now in
    cut_kept c.args.rows c.args.cols c.args.k c.args.m.now (above ++ (c.add_scaled.new.dst ++ below)) above here c.add_scaled.new.dst below
    (cut_at c.args.cols c.args.k c.args.m.now above here below c.split_at_mut-above.result.1.now c.split_at_mut-above.ensures.value c.split_at_mut-row.ensures.value c.split_at_mut-above.ensures.front_len c.split_at_mut-row.ensures.front_len)
    (cut_of c.args.cols c.args.k above c.add_scaled.new.dst below c.split_at_mut-above.ensures.front_len (c.add_scaled.auto.dst ∙ c.split_at_mut-row.ensures.front_len))

pub returns-clause-symbols : goal.returns-clause-symbols
returns-clause-symbols g c =
    let P : ℕ → Type 0 = λ a. a < 2 ^ g.F.Field.bits_of c.args.f.now in
    All-cut P c.split_at_mut-above.result.0.now c.add_scaled.new.dst c.split_at_mut-row.result.1.now
    (All-above P c.args.m.now c.split_at_mut-above.result.0.now c.split_at_mut-above.result.1.now c.split_at_mut-above.ensures.value c.requires.symbols) c.add_scaled.ensures.symbols
    (All-below P c.split_at_mut-above.result.1.now c.split_at_mut-row.result.0.now c.split_at_mut-row.result.1.now c.split_at_mut-row.ensures.value
    (All-below P c.args.m.now c.split_at_mut-above.result.0.now c.split_at_mut-above.result.1.now c.split_at_mut-above.ensures.value c.requires.symbols))
