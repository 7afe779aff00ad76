use Rattle.std.proofs.Common.{ℕ, ◌≡◌, ◌-◌, ◌*◌, ◌/◌, ◌<◌, ◌≤◌, length, take, drop, Some, sym, ap, ◌∙◌, arith}
use Rattle.std.specs.Vec.{with_item}
use Rattle.std.proofs.lemmas.List.{with_items_is, length-set, get_or_default}
use Rattle.stored_form.specs.Bits.{bits_of_symbols}
use Rattle.stored_form.proofs.BitsLemmas.{length-bits_of_symbols}
use Rattle.ag_frame.proofs.Views.{out_same, length_from}
use Rattle.ag_frame.proofs.PackedBits.{held_fits_out, held_behind, held_before}
use Rattle.ag_frame.proofs.outgoing.BitsOut.hold.Goals as goal

pub write_symbols-requires-clause-inside : goal.write_symbols-requires-clause-inside
write_symbols-requires-clause-inside c =
    let s = c.self.inside in
    let v = c.self.invariant in
    let long = rw (← c.self.view_is) at c.requires.long in
    let few = rw (← c.self.view_is) at c.requires.few in
    let bits = bits_of_symbols 8 s.bytes.items in
    let all = ap length c.deref_mut.ensures.value ∙ length-set s.bytes.items 0 c.index.result.now in
    let group : length c.args.msg.now * s.width ≡ s.whole = ap (λ n. n * s.width) long ∙ sym v.whole_is in
    let high : s.end ≤ length bits = omega (arith, length-bits_of_symbols 8 s.bytes.items, v.within, v.room_is) in
    omega (arith, few, all, group, v.room_is, length_from bits s.at s.end v.in_order high)

pub invariant_of-self : goal.invariant_of-self
invariant_of-self c =
    let s = c.self.inside in
    let v = c.self.invariant in
    let few = rw (← c.self.view_is) at c.requires.few in
    let bits = bits_of_symbols 8 s.bytes.items in
    let high : s.end ≤ length bits = omega (arith, length-bits_of_symbols 8 s.bytes.items, v.within, v.room_is) in
    let same = with_items_is (with_item s.bytes 0 c.index.result.now) c.write_symbols.new.bytes (c.write_symbols.ensures.length ∙ c.deref_mut.ensures.len) in
    held_fits_out _ v (ap length same ∙ c.write_symbols.ensures.length ∙ ap length c.deref_mut.ensures.value ∙ length-set s.bytes.items 0 c.index.result.now)
    (omega (arith, few, length_from bits s.at s.end v.in_order high))

pub returns : goal.returns
returns c =
    let s = c.self.inside in
    let v = c.self.invariant in
    let long = rw (← c.self.view_is) at c.requires.long in
    let few = rw (← c.self.view_is) at c.requires.few in
    let bits = bits_of_symbols 8 s.bytes.items in
    let n : ℕ = length c.args.msg.now * s.width in
    let count : ℕ = s.end - s.at in
    let new = c.write_symbols.new.bytes in
    let group : n ≡ s.whole = ap (λ m. m * s.width) long ∙ sym v.whole_is in
    let high : s.end ≤ length bits = omega (arith, length-bits_of_symbols 8 s.bytes.items, v.within, v.room_is) in
    let short : count ≤ 8 = omega (arith, few, length_from bits s.at s.end v.in_order high) in
    let place : s.at / 8 * 8 ≡ s.at = omega (arith, v.at_byte) in
    let below : s.at / 8 < length s.bytes.items = omega (arith, v.in_order, v.within, v.room_is) in
    let value = c.index.ensures ∙ get_or_default s.bytes.items (s.at / 8) c.index.result.now 0 below in
    let same = with_items_is (with_item s.bytes 0 c.index.result.now) new (c.write_symbols.ensures.length ∙ c.deref_mut.ensures.len) in
    let words = bits_of_symbols s.width c.args.msg.now in
    let before = held_before s.bytes.items c.deref_mut.result.now new words s.at (s.at / 8) count n c.index.result.now place below value short c.deref_mut.ensures.value c.write_symbols.ensures.bits in
    let behind = held_behind s.bytes.items c.deref_mut.result.now new words s.at (s.at / 8) count n c.index.result.now place below value short c.deref_mut.ensures.value c.write_symbols.ensures.bits in
    let first : count - 0 ≡ count = omega arith in
    rw (← c.self.view_is) (out_same s.size s.width _ _ _ _
    (ap (λ l. take (count - 0) (drop 0 (bits_of_symbols 8 l))) same ∙ ap (λ m. take m (drop 0 (bits_of_symbols 8 new))) first ∙ before)
    (ap (λ l. Some (take s.whole (drop count (bits_of_symbols 8 l)))) same ∙ ap (λ m. Some (take m (drop count (bits_of_symbols 8 new)))) (sym group) ∙ ap Some behind))
