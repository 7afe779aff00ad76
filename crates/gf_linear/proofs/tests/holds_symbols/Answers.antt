use Rattle.std.proofs.Common.{ℕ, ◌<◌, List, All, subst}
use Rattle.gf_linear.proofs.Views.{view-over}
use Rattle.gf_linear.proofs.tests.holds_symbols.Goals as goal

pub returns : goal.returns
returns c e =
    let a = c.m.inside in
    view-over a.rows a.cols a.entries.items c.args.m.now c.m.view_is 2 (subst (λ (w : List ℕ). All (λ x. x < 4) w) c.deref.ensures.value (c.are_symbols.ensures e)) c.m.invariant.2
