use Rattle.std.proofs.Common.{◌∷◌, [], arith, length-append, ap, length}
use Rattle.std.proofs.lemmas.List.Elements.{All-push}
use Rattle.stream_codec.specs.Slots.{CanDecode}
use Rattle.stream_codec.proofs.window.new_slots.Goals as goal

pub loop-preserved : goal.loop-preserved
loop-preserved g c =
    let items = c.in_ok-push.ensures.items in
    record {
      count = omega (arith, c.loop.invariant.count, ap length items, length-append c.loop.slots.items (c.in_ok-slot.slot ∷ []));
      fit = rw items (All-push (CanDecode (g.C.BlockCode.form c.args.code.now) (g.C.BlockCode.numbers c.args.code.now)) c.loop.slots.items c.in_ok-slot.slot c.loop.invariant.fit c.in_ok-slot.ensures);
    }
