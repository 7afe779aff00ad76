use Rattle.std.proofs.Common.{◌≡◌, ℕ, ◌<◌, List, [], length, slice_index, slice_index_or, ◌∙◌, ap, arith}
use Rattle.linear_theory.specs.Linear.{dot as dot_of}
use Rattle.gf_theory.specs.Field.{gf_mul}
use Rattle.parity_space.proofs.are_orthogonal.Goals as goal

pub returns-then-dot-ne0 : goal.returns-then-dot-ne0
returns-then-dot-ne0 g c =
    let mul : ℕ → ℕ → ℕ = gf_mul (g.F.Field.bits_of c.args.f.now) (g.F.Field.modulus_of c.args.f.now) in
    let word : List ℕ = c.args.word.now in
    let rows : c.rows-i-end.result ≡ length c.args.rows.now.rows = c.rows-i-end.ensures.rows in
    let test : c.loop-i.i < c.rows-i-end.result = c.loop-i-test.true in
    let row : dot_of mul (length word) (slice_index word) (slice_index c.row.result.now) ≡ dot_of mul (length word) (slice_index word) (slice_index (slice_index_or c.args.rows.now.rows c.loop-i.i [])) =
    ap (λ (r : List ℕ). dot_of mul (length word) (slice_index word) (slice_index r)) c.row.ensures.row in (
      λ t. absurd (cc),
      λ h. absurd (c.if-dot-ne0.true (c.dot.ensures.value ∙ (row ∙ h c.loop-i.i (omega arith)))),
    )
