use Rattle.std.proofs.Common.{ℕ, ◌≡◌, ◌+◌, ◌*◌, ◌<◌, ◌≤◌, ◌^◌, ◌∙◌, ap, sym, subst, arith, All, List}
use Rattle.std.proofs.lemmas.Nat.{pow_pos}
use Rattle.std.specs.Prelude.{slice_index}
use Rattle.vote_matrix.specs.Slots.{slots}
use Rattle.vote_matrix.specs.Stored.{elimination_of, mixed_at}
use Rattle.vote_matrix.proofs.Readings.{read_at}
use Rattle.vote_matrix.proofs.Stages.{first_sum, copied_above, last_sum}
use Rattle.vote_matrix.proofs.reduction.Reduction.unreduce.Goals as goal

pub loop-t-init : goal.loop-t-init
loop-t-init g c =
    let a = c.args.self.now in
    let h = c.requires.stored in
    let span : c.index.result.now ≡ slice_index a.spans.items c.args.i = read_at a.spans.items c.args.i a.n c.index.result.now c.index.ensures c.requires.row h.state.spans_fit in
    let first : (t : ℕ) → t < slice_index a.spans.items c.args.i → slice_index c.copy_factors.new.out t ≡ slice_index a.factors.items (c.args.i * a.most + t) =
    λ t l. c.copy_factors.ensures.first t (omega arith) ∙ ap (λ (xs : List ℕ). slice_index xs (c.args.i * a.most + t)) c.deref.ensures.value in
    let zeros : (t : ℕ) → slice_index a.spans.items c.args.i ≤ t → slice_index c.copy_factors.new.out t ≡ 0 = λ t l. c.copy_factors.ensures.zeros t (omega arith) in
    record {
      symbols = c.copy_factors.ensures.symbols (2 ^ a.bits) (pow_pos a.bits) (subst (λ (xs : List ℕ). All (λ x. x < 2 ^ a.bits) xs) (sym c.deref.ensures.value) h.state.factors_below);
      above = copied_above (elimination_of a) (slots a.n a.number.items) a.inverse.items h.state (slice_index c.copy_factors.new.out) c.args.i c.requires.row first zeros;
      sum = λ S j e l. first_sum (elimination_of a) (slots a.n a.number.items) a.inverse.items h.state (slice_index c.copy_factors.new.out) S c.args.i j e c.requires.row first zeros;
    }

pub returns-clause-sum : goal.returns-clause-sum
returns-clause-sum g c =
    λ S j e l.
    let a = c.args.self.now in
    let h = c.requires.stored in
    let none : c.loop-t.t ≡ 0 = omega (arith, c.loop-t-test.false) in
    sym (ap (λ (q : ℕ). mixed_at (elimination_of a) S (slice_index c.loop-t.out) q j) (sym none) ∙ c.loop-t.invariant.sum S j e l)
    ∙ last_sum (elimination_of a) (slots a.n a.number.items) a.inverse.items h.state (slice_index c.loop-t.out) S j e
