use Rattle.std.proofs.Common.{ℕ, ◌+◌, ◌<◌, sym, subst, ◌∙◌, refl, arith}
use Rattle.std.specs.Prelude.{slice_index}
use Rattle.order_theory.specs.Basis.{times}
use Rattle.order_theory.specs.Errors.{entry}
use Rattle.vote_matrix.specs.Elimination.{Elimination}
use Rattle.vote_core.specs.Votes.{HasVote}
use Rattle.vote_core.proofs.Confirming.{IsConfirming, confirming_none, confirming_past, confirming_more, confirmed_inside, confirmed_above, confirmed_candidate, confirmed_keeps, vote_in}
use Rattle.vote_core.proofs.outcome.conclude.Goals as goal
use Rattle.vote_core.proofs.outcome.conclude.Goals.{then-eq, else-eq}

pub loop-i-init : goal.loop-i-init
loop-i-init g c = confirming_none c.args.basis.now c.args.list.now c.take_on.new.work c.args.matrix.now c.args.k c.args.winner c.n-i-end.ensures.sound c.requires.member c.requires.word c.take_on.ensures.word c.requires.winner c.take_on.ensures.moved c.requires.read

pub settle_kept-requires-clause-column : goal.settle_kept-requires-clause-column
settle_kept-requires-clause-column g c =
    let b = c.args.basis.now in
    let w = c.args.list.now in
    let li : c.loop-i.i < c.args.basis.now.n = omega arith in
    let vote : HasVote b w c.args.k c.loop-i.i c.args.winner =
    vote_in b w c.args.votes.now c.args.k c.loop-i.i c.args.winner c.requires.votes li (sym c.eq.ensures ∙ c.if-eq.true) in
    subst (λ (n : ℕ). slice_index c.loop-i.matrix.known c.loop-i.i < n) (sym c.loop-i.invariant.part.settled.n)
    (confirmed_inside b w c.take_on.new.work c.args.matrix.now c.args.k c.args.winner c.n-i-end.ensures.sound c.requires.member c.requires.word c.take_on.ensures.word c.requires.winner c.take_on.ensures.moved c.requires.read c.loop-i.matrix c.loop-i.i c.loop-i.invariant li vote)

pub settle_kept-requires-clause-above : goal.settle_kept-requires-clause-above
settle_kept-requires-clause-above g c =
    let b = c.args.basis.now in
    let w = c.args.list.now in
    let li : c.loop-i.i < c.args.basis.now.n = omega arith in
    let vote : HasVote b w c.args.k c.loop-i.i c.args.winner =
    vote_in b w c.args.votes.now c.args.k c.loop-i.i c.args.winner c.requires.votes li (sym c.eq.ensures ∙ c.if-eq.true) in
    confirmed_above b w c.take_on.new.work c.args.matrix.now c.args.k c.args.winner c.n-i-end.ensures.sound c.requires.member c.requires.word c.take_on.ensures.word c.requires.winner c.take_on.ensures.moved c.requires.read c.loop-i.matrix c.loop-i.i c.loop-i.invariant li vote

pub loop-i-preserved : goal.loop-i-preserved
loop-i-preserved g c = elim c.if-eq.branch [
  | then-eq v ↦
      let b = c.args.basis.now in
      let w = c.args.list.now in
      let w' = c.take_on.new.work in
      let li : c.loop-i.i < c.args.basis.now.n = omega arith in
      let vote : HasVote b w c.args.k c.loop-i.i c.args.winner =
      vote_in b w c.args.votes.now c.args.k c.loop-i.i c.args.winner c.requires.votes li (sym c.eq.ensures ∙ v.if-eq.true) in
      let candidate = confirmed_candidate b w w' c.args.matrix.now c.args.k c.args.winner c.n-i-end.ensures.sound c.requires.member c.requires.word c.take_on.ensures.word c.requires.winner c.take_on.ensures.moved c.requires.read c.loop-i.matrix c.loop-i.i c.loop-i.invariant li vote in
      let keeps = confirmed_keeps b w w' c.args.matrix.now c.args.k c.args.winner c.n-i-end.ensures.sound c.requires.member c.requires.word c.take_on.ensures.word c.requires.winner c.take_on.ensures.moved c.requires.read c.loop-i.matrix c.loop-i.i c.loop-i.invariant li vote in
      subst (λ (m : Elimination). IsConfirming b w' c.args.matrix.now m c.args.k (c.loop-i.i + 1)) (sym v.matrix-is)
      (confirming_more b w w' c.args.matrix.now c.args.k c.args.winner c.n-i-end.ensures.sound c.requires.member c.requires.word c.take_on.ensures.word c.requires.winner c.take_on.ensures.moved c.requires.read c.loop-i.matrix c.loop-i.i c.loop-i.invariant li vote
      v.settle_kept.new.self v.settle_kept.ensures.grown v.settle_kept.ensures.count
      (v.settle_kept.ensures.eliminated (entry (times b) b w') (slice_index c.loop-i.matrix.known c.loop-i.i) c.loop-i.invariant.part.matrix refl candidate keeps))
  | else-eq v ↦
      subst (λ (m : Elimination). IsConfirming c.args.basis.now c.take_on.new.work c.args.matrix.now m c.args.k (c.loop-i.i + 1)) (sym v.matrix-is)
      (confirming_past c.args.basis.now c.args.list.now c.take_on.new.work c.args.matrix.now c.args.k c.args.winner c.n-i-end.ensures.sound c.requires.member c.requires.word c.take_on.ensures.word c.requires.winner c.take_on.ensures.moved c.requires.read c.loop-i.matrix c.loop-i.i c.loop-i.invariant)
]
