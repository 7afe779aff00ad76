use Rattle.std.proofs.Common.{List, Bool, sym, ◌∙◌}
use Rattle.order_domain.specs.declared.Point.{Point}
use Rattle.cab_curve.specs.Points.{is_on_curve}
use Rattle.cab_curve.proofs.Rows.{row-more, row-same}
use Rattle.cab_curve.proofs.equation.Curve.push_row.Goals as goal
use Rattle.cab_curve.proofs.equation.Curve.push_row.Goals.{then-holds+in_ok-push, else-holds}

pub loop-y-preserved : goal.loop-y-preserved
loop-y-preserved g c =
    let p : Point → Bool = is_on_curve (g.F.Field.bits_of c.args.f.now) (g.F.Field.modulus_of c.args.f.now) c.args.self.now.terms in
    let before : List Point = c.args.points.now.items in
    let items : List Point = c.loop-y.points.items in
    elim c.if-holds.branch [
      | then-holds+in_ok-push w ↦
          let more = row-more p c.args.x c.loop-y.y before items c.loop-y.invariant (sym c.holds.ensures.test ∙ w.if-holds.true) in
          let pushed = w.in_ok-push.ensures.items in
          let is = w.points-is in
          cc
      | else-holds w ↦
          let same = row-same p c.args.x c.loop-y.y before items c.loop-y.invariant (sym c.holds.ensures.test ∙ w.if-holds.false) in
          let is = w.points-is in
          cc
    ]
