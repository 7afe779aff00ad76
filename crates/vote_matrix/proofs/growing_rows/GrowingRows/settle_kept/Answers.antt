use Rattle.std.proofs.Common.{◌≡◌, ℕ, ◌+◌, ◌<◌, ◌^◌, sym, ap, subst}
use Rattle.std.proofs.Math.ListN.{set}
use Rattle.std.specs.Prelude.{slice_index}
use Rattle.gf_theory.specs.Field.{gf_mul}
use Rattle.linear_theory.specs.Linear.{IsCandidate, KeepsRank}
use Rattle.vote_matrix.specs.Slots.{slots}
use Rattle.vote_matrix.specs.Stored.{elimination_of}
use Rattle.vote_matrix.specs.Elimination.{Elimination, IsEliminationOf}
use Rattle.vote_matrix.proofs.Readings.{read_at}
use Rattle.vote_matrix.proofs.RankReadings.{state_kept, kept_eliminated}
use Rattle.vote_matrix.proofs.growing_rows.GrowingRows.settle_kept.Goals as goal

pub returns-clause-eliminated : goal.returns-clause-eliminated
returns-clause-eliminated c =
    let a = c.self.inside.reduction in
    let h = c.self.invariant in
    let row : c.args.i < a.n = subst (λ (v : Elimination). c.args.i < v.n) (sym c.self.view_is) c.requires.row in
    let column : slice_index a.known.items c.args.i < a.n = subst (λ (v : Elimination). slice_index v.known c.args.i < v.n) (sym c.self.view_is) c.requires.column in
    let above : (p : ℕ) → p < c.args.i → slice_index a.known.items c.args.i < slice_index a.known.items p =
    subst (λ (v : Elimination). (p : ℕ) → p < c.args.i → slice_index v.known c.args.i < slice_index v.known p) (sym c.self.view_is) c.requires.above in
    let read : c.index_mut.result.now ≡ slice_index a.known.items c.args.i = read_at a.known.items c.args.i a.n c.index_mut.result.now c.index_mut.ensures.value row h.state.known_fit in
    let is : c.index_mut.result.now + 1 ≡ slice_index a.known.items c.args.i + 1 = ap (λ (x : ℕ). x + 1) read in
    subst (λ (v : Elimination). (S : ℕ → ℕ → ℕ) → (j : ℕ) → IsEliminationOf S v → j ≡ slice_index v.known c.args.i → IsCandidate (2 ^ v.bits) (gf_mul v.bits v.modulus) S c.args.i j
    → KeepsRank (2 ^ v.bits) (gf_mul v.bits v.modulus) S c.args.i j (S c.args.i j) → IsEliminationOf S (record (elimination_of a) { known = set a.known.items c.args.i (c.index_mut.result.now + 1) })) c.self.view_is
    (kept_eliminated (elimination_of a) (slots a.n a.number.items) a.inverse.items h.state c.args.i (c.index_mut.result.now + 1) row is column above)

pub invariant_of-self : goal.invariant_of-self
invariant_of-self c =
    let a = c.self.inside.reduction in
    let h = c.self.invariant in
    let row : c.args.i < a.n = subst (λ (v : Elimination). c.args.i < v.n) (sym c.self.view_is) c.requires.row in
    let column : slice_index a.known.items c.args.i < a.n = subst (λ (v : Elimination). slice_index v.known c.args.i < v.n) (sym c.self.view_is) c.requires.column in
    let above : (p : ℕ) → p < c.args.i → slice_index a.known.items c.args.i < slice_index a.known.items p =
    subst (λ (v : Elimination). (p : ℕ) → p < c.args.i → slice_index v.known c.args.i < slice_index v.known p) (sym c.self.view_is) c.requires.above in
    let read : c.index_mut.result.now ≡ slice_index a.known.items c.args.i = read_at a.known.items c.args.i a.n c.index_mut.result.now c.index_mut.ensures.value row h.state.known_fit in
    let is : c.index_mut.result.now + 1 ≡ slice_index a.known.items c.args.i + 1 = ap (λ (x : ℕ). x + 1) read in
    record {
      state = state_kept (elimination_of a) (slots a.n a.number.items) a.inverse.items h.state c.args.i (c.index_mut.result.now + 1) row is column above;
      pivots_low = h.pivots_low;
      numbers_low = h.numbers_low;
    }
