use Rattle.std.proofs.Common.{◌≡◌, ℕ, ◌≤◌, ◌+◌, length, sym, subst, refl, arith}
use Rattle.std.proofs.Math.Facts.{Fits-of_lt}
use Rattle.cab_curve.proofs.Tables.{AreListed, listed_none, listed_no_member, listed_member, listed_few, table_of_listed}
use Rattle.cab_curve.proofs.functions.functions_up_to.Goals.{in-Some+in_ok-push-2, in_default}
use Rattle.cab_curve.proofs.functions.functions_up_to.Goals as goal

pub loop-weight-init : goal.loop-weight-init
loop-weight-init c = rw (c.new-rows.ensures.items, c.new-places.ensures.items) (listed_none c.args.semi.now.a c.args.semi.now.b)

pub overflow_cast-len : goal.overflow_cast-len
overflow_cast-len c =
    let few : length c.loop-weight.rows.items ≤ c.loop-weight.weight = listed_few c.loop-weight.invariant in
    let len : c.loop-weight.rows.len ≡ length c.loop-weight.rows.items = c.loop-weight.rows.ok.0 in
    Fits-of_lt (omega arith)

pub loop-weight-preserved : goal.loop-weight-preserved
loop-weight-preserved c = elim c.match-exps.branch [
  | in-Some+in_ok-push-2 w ↦
      rw (w.rows-is, w.in_ok-push-2.ensures.items, c.in_ok-push.ensures.items, c.len.ensures, c.loop-weight.rows.ok.0)
      (listed_member _ _ _ _ _ _ c.loop-weight.invariant (sym w.in-Some.ensures.member) refl w.in-Some.ensures.exponents.0 w.in-Some.ensures.exponents.1 w.in-Some.ensures.weight.0)
  | in_default w ↦
      rw (w.rows-is, c.in_ok-push.ensures.items, c.len.ensures, c.loop-weight.rows.ok.0) (listed_no_member _ _ _ _ _ c.loop-weight.invariant (sym w.in_default.ensures.member))
]

pub returns : goal.returns
returns c =
    let e : c.loop-weight.weight ≡ c.args.top + 1 = omega arith in
    table_of_listed _ _ _ _ _ (subst (λ (w : ℕ). AreListed c.args.semi.now.a c.args.semi.now.b w c.loop-weight.rows.items c.loop-weight.places.items) e c.loop-weight.invariant)
