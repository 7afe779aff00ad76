use Rattle.std.proofs.Common.{◌≡◌, ◌≢◌, ℕ, ◌<◌, ◌≤◌, false, sym, ◌∙◌, ap, arith, rules}
use Rattle.std.proofs.lemmas.Bool.{both_ways}
use Rattle.curve_theory.specs.Semigroup.{is_member, next_member}
use Rattle.curve_theory.proofs.Semigroup.{next_member-is, next_member-least}
use Rattle.weight_semi.proofs.Exponents.{next_member-le}
use Rattle.weight_semi.proofs.Semi.next.Goals as goal

pub loop-next-init : goal.loop-next-init
loop-next-init c =
    let is = next_member-is c.args.self.now.a c.args.self.now.b c.args.w (omega arith) in
    record { above = omega arith; not_past = omega (arith, is.0) }

-- a number that is no member is not the next one
passed : (a b w next : ℕ) → 0 < a → next ≤ next_member a b w → is_member a b next ≡ false → next < next_member a b w
passed a b w next pos le not_member =
    let other : next ≢ next_member a b w = λ e. both_ways (is_member a b next) not_member (ap (is_member a b) e ∙ (next_member-is a b w pos).1) in
    omega arith

pub overflow_add-next-in-loop-next : goal.overflow_add-next-in-loop-next
overflow_add-next-in-loop-next c =
    let le = next_member-le c.args.self.now.a c.args.self.now.b c.args.w in
    search rules

pub loop-next-smaller : goal.loop-next-smaller
loop-next-smaller c =
    let lt = passed c.args.self.now.a c.args.self.now.b c.args.w c.loop-next.next (omega arith) c.loop-next.invariant.not_past (sym c.holds.ensures.test ∙ c.loop-next-test.true) in
    omega arith

pub loop-next-preserved : goal.loop-next-preserved
loop-next-preserved c =
    let lt = passed c.args.self.now.a c.args.self.now.b c.args.w c.loop-next.next (omega arith) c.loop-next.invariant.not_past (sym c.holds.ensures.test ∙ c.loop-next-test.true) in
    record { above = omega arith; not_past = omega arith }

pub returns : goal.returns
returns c =
    let least = next_member-least c.args.self.now.a c.args.self.now.b c.args.w c.loop-next.next c.loop-next.invariant.above (sym c.holds.ensures.test ∙ c.loop-next-test.false) in
    omega arith
