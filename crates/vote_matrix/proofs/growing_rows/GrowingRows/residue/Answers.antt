use Rattle.std.proofs.Common.{◌≡◌, ℕ, ◌<◌, ◌^◌, sym, ◌∙◌, subst}
use Rattle.gf_theory.specs.Field.{gf_mul}
use Rattle.linear_theory.specs.Linear.{IsCandidate, KeepsRank}
use Rattle.vote_matrix.specs.Slots.{slots}
use Rattle.vote_matrix.specs.Stored.{elimination_of}
use Rattle.vote_matrix.specs.Elimination.{Elimination, IsEliminationOf, MaySettle}
use Rattle.vote_matrix.proofs.RankReadings.{residue_is}
use Rattle.vote_matrix.proofs.growing_rows.GrowingRows.residue.Goals as goal

pub returns-clause-keeps : goal.returns-clause-keeps
returns-clause-keeps g c =
    let a = c.self.inside.reduction in
    subst (λ (v : Elimination). c.args.i < v.n → c.args.j < v.n → MaySettle v c.args.i c.args.j → (S : ℕ → ℕ → ℕ) → IsEliminationOf S v → IsCandidate (2 ^ v.bits) (gf_mul v.bits v.modulus) S c.args.i c.args.j → KeepsRank (2 ^ v.bits) (gf_mul v.bits v.modulus) S c.args.i c.args.j c.kept.result) c.self.view_is
    (λ li lj m S e k.
    subst (λ (x : ℕ). KeepsRank (2 ^ a.bits) (gf_mul a.bits a.modulus) S c.args.i c.args.j x) (sym c.kept.ensures.sum)
    (residue_is (elimination_of a) (slots a.n a.number.items) a.inverse.items c.self.invariant.state S e c.args.i c.args.j li lj m k).0)
    c.requires.row c.requires.column c.requires.next

pub returns-clause-only : goal.returns-clause-only
returns-clause-only g c =
    let a = c.self.inside.reduction in
    subst (λ (v : Elimination). c.args.i < v.n → c.args.j < v.n → MaySettle v c.args.i c.args.j → (S : ℕ → ℕ → ℕ) → IsEliminationOf S v → IsCandidate (2 ^ v.bits) (gf_mul v.bits v.modulus) S c.args.i c.args.j → (x : ℕ) → x < 2 ^ v.bits → KeepsRank (2 ^ v.bits) (gf_mul v.bits v.modulus) S c.args.i c.args.j x → x ≡ c.kept.result) c.self.view_is
    (λ li lj m S e k x l u.
    (residue_is (elimination_of a) (slots a.n a.number.items) a.inverse.items c.self.invariant.state S e c.args.i c.args.j li lj m k).1 x l u ∙ sym c.kept.ensures.sum)
    c.requires.row c.requires.column c.requires.next
