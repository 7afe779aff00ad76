use Rattle.std.proofs.Common.{◌≡◌, ◌<◌, ◌∙◌, sym, arith}
use Rattle.plain_voter.proofs.Underway.{underway_marked, underway_turned, underway_all}
use Rattle.plain_voter.proofs.turns.vote_on_all.Goals as goal
use Rattle.plain_voter.proofs.turns.vote_on_all.Goals.{then-not-holds+in_ok-turn+in_ok-push, else-not-holds}

pub loop-k-preserved : goal.loop-k-preserved
loop-k-preserved g c =
    let low : c.loop-k.k < c.args.basis.now.n = omega (arith, c.n-k-end.ensures.value) in
    elim c.if-not-holds.branch [
      | then-not-holds+in_ok-turn+in_ok-push w ↦
          rw (w.work-is, w.lines-is)
          (underway_turned c.args.basis.now c.args.checked.now c.args.work.now c.loop-k.work c.loop-k.lines.items c.loop-k.k c.n-k-end.ensures.sound c.requires.word c.loop-k.invariant
          w.turn.new.work w.push.new.self.items w.in_ok-turn.field-0 low (sym c.holds.ensures ∙ w.if-not-holds.true) w.in_ok-turn.ensures.turn w.turn.ensures.word w.in_ok-push.ensures.items)
      | else-not-holds w ↦
          rw (w.work-is, w.lines-is)
          (underway_marked c.args.basis.now c.args.checked.now c.args.work.now c.loop-k.work c.loop-k.lines.items c.loop-k.k c.n-k-end.ensures.sound c.requires.word c.loop-k.invariant low (sym c.holds.ensures ∙ w.if-not-holds.false))
    ]

pub returns : goal.returns
returns g c =
    let end : c.loop-k.k ≡ c.args.basis.now.n = omega (arith, c.n-k-end.ensures.value) in
    record { found = underway_all c.args.basis.now c.args.checked.now c.args.work.now c.loop-k.work c.loop-k.lines.items c.loop-k.k c.n-k-end.ensures.sound c.requires.word c.loop-k.invariant end }
