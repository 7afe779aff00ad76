use Rattle.std.proofs.Common.{ℕ, ◌≡◌, arith, subst}
use Rattle.order_bound.proofs.Leasts.{Leasts, leasts_distance}
use Rattle.order_bound.proofs.distance.bound.Goals as goal

pub returns-clause-distance : goal.returns-clause-distance
returns-clause-distance g c =
    let e : c.loop-k.k ≡ c.args.basis.now.n = omega arith in
    leasts_distance c.args.basis.now c.args.checked.now c.loop-k.least c.n-k-end.ensures.sound
    (subst (λ (m : ℕ). Leasts c.args.basis.now c.args.checked.now m c.loop-k.least) e c.loop-k.invariant)
