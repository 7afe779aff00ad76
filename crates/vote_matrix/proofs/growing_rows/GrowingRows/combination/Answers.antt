use Rattle.std.proofs.Common.{◌≡◌, ℕ, ◌<◌, ◌∙◌, subst}
use Rattle.std.specs.Prelude.{slice_index}
use Rattle.gf_theory.specs.Field.{gf_mul}
use Rattle.field_theory.specs.Sums.{xor_sum}
use Rattle.vote_matrix.specs.Slots.{slots}
use Rattle.vote_matrix.specs.Stored.{elimination_of}
use Rattle.vote_matrix.specs.Elimination.{Elimination, IsEliminationOf, AddsNothing}
use Rattle.vote_matrix.proofs.RankReadings.{nothing_kept}
use Rattle.vote_matrix.proofs.growing_rows.GrowingRows.combination.Goals as goal

pub returns-clause-sum : goal.returns-clause-sum
returns-clause-sum g c =
    let a = c.self.inside.reduction in
    subst (λ (v : Elimination). c.args.i < v.n → (S : ℕ → ℕ → ℕ) → (j : ℕ) → IsEliminationOf S v → AddsNothing v S c.args.i → j < slice_index v.known c.args.i
    → S c.args.i j ≡ xor_sum v.count (λ t. gf_mul v.bits v.modulus (slice_index c.unreduce.new.out t) (S (slice_index v.rows t) j))) c.self.view_is
    (λ li S j e n l. nothing_kept (elimination_of a) (slots a.n a.number.items) a.inverse.items c.self.invariant.state S e c.args.i j li n l ∙ c.unreduce.ensures.sum S j e l)
    c.requires.row
