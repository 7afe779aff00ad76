use Rattle.std.proofs.Common.{◌≡◌, ◌↔◌, ℕ, ◌<◌, ◌≤◌, ◌^◌, sym, ◌∙◌, ap, subst, arith, refl, leb, true, false}
use Rattle.std.specs.Prelude.{slice_index, IsTrue}
use Rattle.gf_theory.specs.Field.{gf_mul}
use Rattle.linear_theory.specs.Linear.{IsCandidate}
use Rattle.vote_matrix.specs.Slots.{slots}
use Rattle.vote_matrix.specs.Stored.{elimination_of}
use Rattle.vote_matrix.specs.Elimination.{Elimination, IsEliminationOf, MaySettle}
use Rattle.vote_matrix.proofs.Readings.{read_at}
use Rattle.vote_matrix.proofs.Readings.{answer_no, answer_leb, not_past}
use Rattle.vote_matrix.proofs.RankReadings.{candidate_is}
use Rattle.vote_matrix.proofs.growing_rows.GrowingRows.candidate.Goals as goal

pub returns-in-Some : goal.returns-in-Some
returns-in-Some c =
    let a = c.self.inside.reduction in
    let past : c.args.j ≤ slice_index (slots a.n a.pivot.items) c.args.i = not_past c.args.j (slice_index (slots a.n a.pivot.items) c.args.i) c.if-has_pivot_before.ensures.1 in
    let low : c.in-Some.number < a.n = c.in-Some.ensures.low in
    let number : slice_index (slots a.n a.number.items) c.args.j ≡ c.in-Some.number = c.in-Some.ensures.same in
    let few : slice_index (slots a.n a.number.items) c.args.j < a.count = (c.self.invariant.state.has_pivots.column c.args.j (subst (λ (v : Elimination). c.args.j < v.n) (sym c.self.view_is) c.requires.column) (omega arith)).0 in
    let above : c.index.result.now ≡ slice_index a.rows.items (slice_index (slots a.n a.number.items) c.args.j) =
    read_at a.rows.items c.in-Some.number a.most c.index.result.now c.index.ensures (omega (arith, c.self.invariant.state.few)) c.self.invariant.state.rows_fit ∙ ap (λ (t : ℕ). slice_index a.rows.items t) (sym number) in
    subst (λ (v : Elimination). c.args.i < v.n → c.args.j < v.n → MaySettle v c.args.i c.args.j → (S : ℕ → ℕ → ℕ) → IsEliminationOf S v → IsTrue (leb c.args.i c.index.result.now) ↔ IsCandidate (2 ^ v.bits) (gf_mul v.bits v.modulus) S c.args.i c.args.j) c.self.view_is
    (λ li lj m S e.
    let w = candidate_is (elimination_of a) (slots a.n a.number.items) a.inverse.items c.self.invariant.state S e c.args.i c.args.j li lj m in
    answer_leb (IsCandidate (2 ^ a.bits) (gf_mul a.bits a.modulus) S c.args.i c.args.j) c.args.i c.index.result.now
    (λ l. w.1 (past, λ u. omega arith)) (λ k. let f : c.args.i ≤ slice_index a.rows.items (slice_index (slots a.n a.number.items) c.args.j) = (w.0 k).1 (omega arith) in omega arith))
    c.requires.row c.requires.column c.requires.next

pub returns-in-None : goal.returns-in-None
returns-in-None c =
    let a = c.self.inside.reduction in
    let past : c.args.j ≤ slice_index (slots a.n a.pivot.items) c.args.i = not_past c.args.j (slice_index (slots a.n a.pivot.items) c.args.i) c.if-has_pivot_before.ensures.1 in
    let none : slice_index (slots a.n a.number.items) c.args.j ≡ a.n = c.in-None.ensures in
    subst (λ (v : Elimination). c.args.i < v.n → c.args.j < v.n → MaySettle v c.args.i c.args.j → (S : ℕ → ℕ → ℕ) → IsEliminationOf S v → IsTrue true ↔ IsCandidate (2 ^ v.bits) (gf_mul v.bits v.modulus) S c.args.i c.args.j) c.self.view_is
    (λ li lj m S e.
    let w = candidate_is (elimination_of a) (slots a.n a.number.items) a.inverse.items c.self.invariant.state S e c.args.i c.args.j li lj m in
    (λ t. w.1 (past, λ u. absurd (omega arith)), λ k. refl))
    c.requires.row c.requires.column c.requires.next

pub returns-then-has_pivot_before : goal.returns-then-has_pivot_before
returns-then-has_pivot_before c =
    let a = c.self.inside.reduction in
    let before : slice_index (slots a.n a.pivot.items) c.args.i < c.args.j = c.if-has_pivot_before.ensures.0 refl in
    subst (λ (v : Elimination). c.args.i < v.n → c.args.j < v.n → MaySettle v c.args.i c.args.j → (S : ℕ → ℕ → ℕ) → IsEliminationOf S v → IsTrue false ↔ IsCandidate (2 ^ v.bits) (gf_mul v.bits v.modulus) S c.args.i c.args.j) c.self.view_is
    (λ li lj m S e.
    let w = candidate_is (elimination_of a) (slots a.n a.number.items) a.inverse.items c.self.invariant.state S e c.args.i c.args.j li lj m in
    answer_no (IsCandidate (2 ^ a.bits) (gf_mul a.bits a.modulus) S c.args.i c.args.j) (λ k. let u : c.args.j ≤ slice_index (slots a.n a.pivot.items) c.args.i = (w.0 k).0 in omega arith))
    c.requires.row c.requires.column c.requires.next
