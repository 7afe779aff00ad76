use Rattle.std.proofs.Common.{◌≡◌, ℕ, ◌+◌, ◌*◌, ◌-◌, ◌∙◌, ap, inl, inr, arith, bit_xor, take, drop, length}
use Rattle.std.proofs.lemmas.Bool.{cases_lt}
use Rattle.std.proofs.lemmas.List.{length-take-le, length-drop}
use Rattle.std.specs.Prelude.{slice_index}
use Rattle.gf_theory.specs.Field.{gf_mul}
use Rattle.vote_matrix.specs.Lines.{line_kept}
use Rattle.vote_matrix.proofs.Cuts.{low_part, high_at, high_same, kept_cut, part_at}
use Rattle.vote_matrix.proofs.tables.extend_row.Goals as goal

pub returns-clause-settled : goal.returns-clause-settled
returns-clause-settled g c =
    λ q l.
    let a = c.split_at_mut-above.result.0.now in
    let b = c.split_at_mut-above.result.1.now in
    let k = c.args.i * c.args.most + c.args.span - c.args.i * c.args.most in
    let part = take k (drop (c.args.i * c.args.most) c.args.factors.now) in
    let long : length part ≡ c.args.span = length-take-le k (drop (c.args.i * c.args.most) c.args.factors.now) (rw length-drop (omega (arith, c.requires.factors_fit, c.requires.span, c.requires.own))) ∙ omega arith in
    high_at (c.args.own * c.args.stride) a c.extend_line.new.line c.split_at_mut-above.ensures.front_len (c.args.from + q)
    ∙ c.extend_line.ensures.settled q l
    ∙ ap (λ (x : ℕ). bit_xor (slice_index c.args.values.now q) x)
    (ap (λ (s : ℕ). line_kept (gf_mul (g.F.Field.bits_of c.args.f.now) (g.F.Field.modulus_of c.args.f.now)) c.args.stride s (slice_index part) a (c.args.from + q)) long
    ∙ kept_cut (g.F.Field.bits_of c.args.f.now) (g.F.Field.modulus_of c.args.f.now) c.args.stride c.args.span c.args.own (c.args.from + q) (slice_index part) (λ t. slice_index c.args.factors.now (c.args.i * c.args.most + t)) c.args.reduced.now a b
    c.split_at_mut-above.ensures.value c.split_at_mut-above.ensures.front_len c.requires.span (omega (arith, c.requires.here)) (λ t u. part_at (c.args.i * c.args.most) k t c.args.factors.now (omega arith)))

pub returns-clause-before : goal.returns-clause-before
returns-clause-before g c =
    λ p l.
    let a = c.split_at_mut-above.result.0.now in
    let b = c.split_at_mut-above.result.1.now in
    let k = c.args.own * c.args.stride in
    elim (cases_lt p k) [
      | inl u ↦ low_part k c.args.reduced.now a b c.extend_line.new.line c.split_at_mut-above.ensures.value c.split_at_mut-above.ensures.front_len p u
      | inr u ↦ high_same k c.args.reduced.now a b c.extend_line.new.line c.split_at_mut-above.ensures.value c.split_at_mut-above.ensures.front_len p u (c.extend_line.ensures.before (p - k) (omega arith))
    ]

pub returns-clause-after : goal.returns-clause-after
returns-clause-after g c =
    λ p l.
    let a = c.split_at_mut-above.result.0.now in
    let b = c.split_at_mut-above.result.1.now in
    let k = c.args.own * c.args.stride in
    high_same k c.args.reduced.now a b c.extend_line.new.line c.split_at_mut-above.ensures.value c.split_at_mut-above.ensures.front_len p (omega arith) (c.extend_line.ensures.after (p - k) (omega arith))
