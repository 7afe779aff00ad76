use Rattle.std.proofs.Common.{subst, sym}
use Rattle.order_theory.specs.Codes.{AreAllMarked}
use Rattle.block_theory.proofs.Decoding.{free-not_all}
use Rattle.block_code.proofs.Membership.{all_checked, all_marked}
use Rattle.block_code.proofs.code.Code.compile.Goals as goal

pub returns-in_default-clause-nothing_free : goal.returns-in_default-clause-nothing_free
returns-in_default-clause-nothing_free g c e =
    let b = c.in_ok-basis.basis in
    all_checked (g.D.OrderDomain.domain c.args.dom.now) (g.F.Field.modulus_of c.args.field) c.args.points.now b c.args.rule c.in_ok-basis.ensures
    (subst (AreAllMarked b) c.in_ok-checked.ensures.marks c.in_default.ensures.bound)

pub returns-clause-some_free : goal.returns-clause-some_free
returns-clause-some_free g c all =
    let b = c.in_ok-basis.basis in
    let marks = c.in_ok-checked.checked in
    let (k, l, free, pairs) = c.in-Some.ensures.bound.reached in
    free-not_all b marks k l free
    (subst (AreAllMarked b) (sym c.in_ok-checked.ensures.marks)
    (all_marked (g.D.OrderDomain.domain c.args.dom.now) (g.F.Field.modulus_of c.args.field) c.args.points.now b c.args.rule c.in_ok-basis.ensures all))
