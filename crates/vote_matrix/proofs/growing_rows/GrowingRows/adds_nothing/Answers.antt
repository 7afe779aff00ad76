use Rattle.std.proofs.Common.{ℕ, ◌<◌, ◌≤◌, ◌↔◌, subst}
use Rattle.std.specs.Prelude.{slice_index, IsTrue}
use Rattle.vote_matrix.specs.Slots.{slots}
use Rattle.vote_matrix.specs.Stored.{elimination_of}
use Rattle.vote_matrix.specs.Elimination.{Elimination, IsEliminationOf, AddsNothing}
use Rattle.vote_matrix.proofs.Slots.{none_iff}
use Rattle.vote_matrix.proofs.RankReadings.{nothing_iff}
use Rattle.vote_matrix.proofs.growing_rows.GrowingRows.adds_nothing.Goals as goal

pub returns : goal.returns
returns c =
    let a = c.self.inside.reduction in
    let free : IsTrue c.is_none.result ↔ (a.n ≤ slice_index (slots a.n a.pivot.items) c.args.i) = none_iff a.n (slice_index (slots a.n a.pivot.items) c.args.i) c.pivot_of.result c.is_none.result c.pivot_of.ensures c.is_none.ensures in
    subst (λ (v : Elimination). c.args.i < v.n → (S : ℕ → ℕ → ℕ) → IsEliminationOf S v → IsTrue c.is_none.result ↔ AddsNothing v S c.args.i) c.self.view_is
    (λ li S e.
    let w = nothing_iff (elimination_of a) (slots a.n a.number.items) a.inverse.items c.self.invariant.state S e c.args.i li in
    (λ t. w.1 (free.0 t), λ n. free.1 (w.0 n)))
    c.requires
