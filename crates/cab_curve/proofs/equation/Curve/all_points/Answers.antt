use Rattle.std.proofs.Common.{◌≡◌, ℕ, Bool, ◌^◌, filter, ◌∙◌, ap, rules}
use Rattle.order_domain.specs.declared.Point.{Point}
use Rattle.cab_curve.specs.Points.{is_on_curve, curve_points}
use Rattle.cab_curve.proofs.Rows.{plane_front, filter-plane_front_more}
use Rattle.cab_curve.proofs.equation.Curve.all_points.Goals as goal

pub loop-x-preserved : goal.loop-x-preserved
loop-x-preserved g c =
    let size : ℕ = 2 ^ g.F.Field.bits_of c.args.f.now in
    let p : Point → Bool = is_on_curve (g.F.Field.bits_of c.args.f.now) (g.F.Field.modulus_of c.args.f.now) c.args.self.now.terms in
    let more = filter-plane_front_more size c.loop-x.x p in
    let added = c.in_ok-push_row.ensures in
    cc

pub returns : goal.returns
unfolding curve_points
returns g c =
    let p : Point → Bool = is_on_curve (g.F.Field.bits_of c.args.f.now) (g.F.Field.modulus_of c.args.f.now) c.args.self.now.terms in
    let end : c.loop-x.x ≡ 2 ^ g.F.Field.bits_of c.args.f.now = search rules in
    c.loop-x.invariant ∙ ap (λ n. filter p (plane_front (2 ^ g.F.Field.bits_of c.args.f.now) n)) end
