use Rattle.std.proofs.Common.{All, sym, subst, arith}
use Rattle.std.proofs.lemmas.List.{with_items_is}
use Rattle.stream_codec.specs.Slots.{CanDecode, decoded}
use Rattle.stream_codec.proofs.WindowLemmas.{front_decoded}
use Rattle.stream_codec.proofs.window.Window.decode.Goals as goal

pub returns-clause-decoded : goal.returns-clause-decoded
returns-clause-decoded g c =
    let items = with_items_is c.self.inside.slots c.decode_slots.new.slots (omega (arith, c.decode_slots.auto.slots, c.deref_mut.ensures.len)) in
    let few = rw (← c.self.view_is) at c.requires.few in
    rw (← c.self.view_is) (front_decoded (decoded (g.C.BlockCode.form c.args.code.now)) _ c.decode_slots.new.slots c.self.inside.slots.items _ items (rw c.deref_mut.ensures.value at c.decode_slots.ensures.decoded) few)

pub returns-clause-ready : goal.returns-clause-ready
returns-clause-ready g c =
    let P = CanDecode (g.C.BlockCode.form c.args.code.now) (g.C.BlockCode.numbers c.args.code.now) in
    let items = with_items_is c.self.inside.slots c.decode_slots.new.slots (omega (arith, c.decode_slots.auto.slots, c.deref_mut.ensures.len)) in
    subst (All P) (sym items) c.decode_slots.ensures.ready
