use Rattle.std.proofs.Common.{◌≡◌, ℕ, ◌+◌, ◌*◌, ◌-◌, ◌<◌, ◌^◌, ◌∙◌, ap, sym, arith, bit_xor, take, drop, length}
use Rattle.std.proofs.lemmas.List.{length-take-le, length-drop}
use Rattle.std.specs.Prelude.{slice_index}
use borrow.Rule.Slice.PartMut.{put_mid}
use Rattle.linear_theory.proofs.Tables.{put_mid-within, All-put_mid}
use Rattle.vote_matrix.specs.Slots.{slots}
use Rattle.vote_matrix.proofs.Cuts.{high_at, kept_cut, part_at, leads_cut, left_same, above_same}
use Rattle.vote_matrix.proofs.tables.settle_free.Goals as goal

pub settle_line-requires-clause-leads : goal.settle_line-requires-clause-leads
settle_line-requires-clause-leads g c =
    leads_cut (g.F.Field.bits_of c.args.f.now) (g.F.Field.modulus_of c.args.f.now) (length c.args.numbers.now) c.args.stride c.args.count (slots (length c.args.numbers.now) c.args.numbers.now) c.args.inverses.now
    c.args.reduced.now c.split_at_mut-above.result.0.now c.split_at_mut-above.result.1.now c.split_at_mut-above.ensures.value c.split_at_mut-above.ensures.front_len (omega (arith, c.requires.count, c.requires.inverses_fit)) c.requires.wide
    c.requires.leads

pub returns-clause-factors_symbols : goal.returns-clause-factors_symbols
returns-clause-factors_symbols g c =
    let a = c.args.i * c.args.most in
    let k = c.args.i * c.args.most + c.args.most - c.args.i * c.args.most in
    let long : length (take k (drop a c.args.factors.now)) ≡ k = length-take-le k (drop a c.args.factors.now) (rw length-drop (omega (arith, c.requires.factors_fit))) in
    All-put_mid (λ x. x < 2 ^ g.F.Field.bits_of c.args.f.now) a k c.args.factors.now c.settle_line.new.own c.requires.factors c.settle_line.ensures.own_symbols (omega (arith, c.requires.factors_fit)) (c.settle_line.ensures.own_long ∙ long)

pub returns-clause-left : goal.returns-clause-left
returns-clause-left g c =
    left_same (length c.args.numbers.now) c.args.from (c.args.from + length c.args.values.now) (slots (length c.args.numbers.now) c.args.numbers.now) (slice_index c.settle_line.new.line) _ c.settle_line.result.column
    (λ j. high_at (c.args.count * c.args.stride) c.split_at_mut-above.result.0.now c.settle_line.new.line c.split_at_mut-above.ensures.front_len j) c.settle_line.ensures.left

pub returns-clause-kept : goal.returns-clause-kept
returns-clause-kept g c =
    λ j l.
    let b = g.F.Field.bits_of c.args.f.now in
    let m = g.F.Field.modulus_of c.args.f.now in
    let a = c.args.i * c.args.most in
    let k = c.args.i * c.args.most + c.args.most - c.args.i * c.args.most in
    let part = take k (drop a c.args.factors.now) in
    let long : length part ≡ k = length-take-le k (drop a c.args.factors.now) (rw length-drop (omega (arith, c.requires.factors_fit))) in
    let low : j < c.args.stride = omega (arith, c.requires.inside, c.requires.wide) in
    sym (kept_cut b m c.args.stride c.settle_line.result.span c.args.count j (slice_index c.settle_line.new.own) (λ t. slice_index (put_mid a k c.args.factors.now c.settle_line.new.own) (a + t)) c.args.reduced.now
    c.split_at_mut-above.result.0.now c.split_at_mut-above.result.1.now c.split_at_mut-above.ensures.value c.split_at_mut-above.ensures.front_len (omega (arith, c.settle_line.ensures.few, length-take-le c.args.count c.args.inverses.now (omega (arith, c.requires.count, c.requires.inverses_fit)))) low
    (λ t u. sym (put_mid-within a k c.args.factors.now c.settle_line.new.own t 0 (omega (arith, c.settle_line.ensures.few, c.requires.count, length-take-le c.args.count c.args.inverses.now (omega (arith, c.requires.count, c.requires.inverses_fit)))) (omega (arith, c.requires.factors_fit)) (c.settle_line.ensures.own_long ∙ long))))
    ∙ c.settle_line.ensures.kept j l
    ∙ kept_cut b m c.args.stride c.args.span c.args.count j (slice_index part) (λ t. slice_index c.args.factors.now (a + t)) c.args.reduced.now
    c.split_at_mut-above.result.0.now c.split_at_mut-above.result.1.now c.split_at_mut-above.ensures.value c.split_at_mut-above.ensures.front_len c.requires.span low
    (λ t u. part_at a k t c.args.factors.now (omega (arith, c.requires.span, c.requires.count)))

pub returns-clause-settled : goal.returns-clause-settled
returns-clause-settled g c =
    λ q l.
    let b = g.F.Field.bits_of c.args.f.now in
    let m = g.F.Field.modulus_of c.args.f.now in
    let a = c.args.i * c.args.most in
    let k = c.args.i * c.args.most + c.args.most - c.args.i * c.args.most in
    let part = take k (drop a c.args.factors.now) in
    let long : length part ≡ k = length-take-le k (drop a c.args.factors.now) (rw length-drop (omega (arith, c.requires.factors_fit))) in
    high_at (c.args.count * c.args.stride) c.split_at_mut-above.result.0.now c.settle_line.new.line c.split_at_mut-above.ensures.front_len (c.args.from + q)
    ∙ c.settle_line.ensures.settled q l
    ∙ ap (λ (x : ℕ). bit_xor (slice_index c.args.values.now q) x)
    (kept_cut b m c.args.stride c.settle_line.result.span c.args.count (c.args.from + q) (slice_index c.settle_line.new.own) (λ t. slice_index (put_mid a k c.args.factors.now c.settle_line.new.own) (a + t)) c.args.reduced.now
    c.split_at_mut-above.result.0.now c.split_at_mut-above.result.1.now c.split_at_mut-above.ensures.value c.split_at_mut-above.ensures.front_len (omega (arith, c.settle_line.ensures.few, length-take-le c.args.count c.args.inverses.now (omega (arith, c.requires.count, c.requires.inverses_fit)))) (omega (arith, c.requires.inside, c.requires.wide))
    (λ t u. sym (put_mid-within a k c.args.factors.now c.settle_line.new.own t 0 (omega (arith, c.settle_line.ensures.few, c.requires.count, length-take-le c.args.count c.args.inverses.now (omega (arith, c.requires.count, c.requires.inverses_fit)))) (omega (arith, c.requires.factors_fit)) (c.settle_line.ensures.own_long ∙ long))))

pub returns-clause-rows : goal.returns-clause-rows
returns-clause-rows g c =
    λ rows up h.
    let a = c.args.i * c.args.most in
    let k = c.args.i * c.args.most + c.args.most - c.args.i * c.args.most in
    let part = take k (drop a c.args.factors.now) in
    let long : length part ≡ k = length-take-le k (drop a c.args.factors.now) (rw length-drop (omega (arith, c.requires.factors_fit))) in
    above_same rows c.args.i c.settle_line.result.span (slice_index c.settle_line.new.own) (λ t. slice_index (put_mid a k c.args.factors.now c.settle_line.new.own) (a + t))
    (λ t u. put_mid-within a k c.args.factors.now c.settle_line.new.own t 0 (omega (arith, c.settle_line.ensures.few, c.requires.count, length-take-le c.args.count c.args.inverses.now (omega (arith, c.requires.count, c.requires.inverses_fit)))) (omega (arith, c.requires.factors_fit)) (c.settle_line.ensures.own_long ∙ long))
    (c.settle_line.ensures.rows rows c.args.i up
    (above_same rows c.args.i c.args.span (λ t. slice_index c.args.factors.now (a + t)) (slice_index part) (λ t u. part_at a k t c.args.factors.now (omega (arith, c.requires.span, c.requires.count))) h))
