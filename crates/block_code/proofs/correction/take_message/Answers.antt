use Rattle.std.proofs.Common.{◌≤◌, ◌↔◌, ℕ, ◌∙◌, ap, subst, sym}
use Rattle.std.specs.Prelude.{Contains}
use Rattle.block_theory.specs.Checks.{ParityChecks, message_places, IsMessagePlace}
use Rattle.block_code.proofs.Again.{place_inside, message_is}
use Rattle.block_code.proofs.correction.take_message.Goals as goal

pub write_low_bits-requires-clause-bits : goal.write_low_bits-requires-clause-bits
write_low_bits-requires-clause-bits g c = subst (λ (b : ℕ). b ≤ 8) (sym c.bits.ensures) c.n.ensures.made.sound.modulus.at_most_eight

pub take_places-requires-clause-within : goal.take_places-requires-clause-within
take_places-requires-clause-within g c =
    place_inside c.args.code.now c.n.ensures.made c.args.got.now c.requires.received c.bits.result c.write_low_bits.new.word c.write_low_bits.ensures c.bits.ensures c.places.result.now
    (c.places.ensures.places ∙ ap (λ (v : ParityChecks). message_places v) c.parity.ensures)
    (subst (λ (v : ParityChecks). (p : ℕ) → Contains c.places.result.now p ↔ IsMessagePlace v p) c.parity.ensures c.places.ensures.exactly)

pub returns-clause-message : goal.returns-clause-message
returns-clause-message g c =
    message_is c.args.code.now c.n.ensures.made c.args.got.now c.requires.received c.bits.result c.write_low_bits.new.word c.write_low_bits.ensures c.bits.ensures c.places.result.now c.take_places.new.msg
    (c.places.ensures.places ∙ ap (λ (v : ParityChecks). message_places v) c.parity.ensures) c.take_places.ensures
