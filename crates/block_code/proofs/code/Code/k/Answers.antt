use Rattle.std.proofs.Common.{◌≡◌, ◌<◌, ◌≤◌, ◌^◌, length, sym, ◌∙◌, ap, subst, arith}
use Rattle.std.proofs.Math.Facts.{Fits-of_lt}
use Rattle.block_theory.specs.Checks.{ParityChecks, message_places}
use Rattle.block_code.specs.Compiled.{checks_in, IsMade}
use Rattle.block_code.proofs.Made.{message_count, few_places}
use Rattle.block_code.proofs.code.Code.k.Goals as goal

pub overflow_cast-result : goal.overflow_cast-result
overflow_cast-result g c =
    let few = few_places _ c.self.invariant.made in
    let places : length c.places.result.now ≡ length (message_places c.self.inside.parity) = ap length c.places.ensures.places in
    let same : length (message_places c.self.inside.parity) ≤ 1024 = subst (λ (v : ParityChecks). length (message_places v) ≤ 1024) (sym c.self.invariant.parity_is) few in
    let small : length c.places.result.now < 2 ^ 32 = omega arith in
    Fits-of_lt small

pub returns-clause-free : goal.returns-clause-free
returns-clause-free g c =
    let code = c.args.self.now in
    let made : IsMade code = subst IsMade c.self.view_is c.self.invariant.made in
    let places : length c.places.result.now ≡ length (message_places (checks_in code)) =
    ap length c.places.ensures.places ∙ ap (λ (v : ParityChecks). length (message_places v)) (c.self.invariant.parity_is ∙ ap checks_in c.self.view_is) in
    omega (arith, message_count code made)
