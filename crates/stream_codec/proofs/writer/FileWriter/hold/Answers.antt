use Rattle.std.proofs.Common.{◌≡◌, length, ap, ◌∙◌, arith}
use Rattle.std.proofs.lemmas.List.{with_items_is}
use Rattle.stream_codec.proofs.WritingLemmas.{holds_messages, holding_fits}
use Rattle.stream_codec.proofs.writer.FileWriter.hold.Goals as goal

pub invariant_of-self : goal.invariant_of-self
invariant_of-self g c =
    let long : length c.messages.new.msg ≡ length c.self.inside.msg.items = omega (arith, c.messages.auto.msg, c.deref_mut.ensures.len) in
    let items = with_items_is c.self.inside.msg c.messages.new.msg (omega (arith, c.messages.auto.msg, c.deref_mut.ensures.len)) in
    holding_fits c.self.inside.bits c.hold.new.self _ c.deref.result.now _ _ _ c.self.invariant c.hold.ensures (ap length items ∙ long) (ap length (c.deref.ensures.value ∙ items) ∙ long)

pub returns : goal.returns
returns g c =
    let long : length c.messages.new.msg ≡ length c.self.inside.msg.items = omega (arith, c.messages.auto.msg, c.deref_mut.ensures.len) in
    let items = with_items_is c.self.inside.msg c.messages.new.msg (omega (arith, c.messages.auto.msg, c.deref_mut.ensures.len)) in
    holds_messages (g.C.BlockCode.form c.args.code.now) c.args.self.now c.self.inside.bits c.hold.new.self c.messages.new.msg c.deref.result.now _ c.self.view_is c.requires.width (c.deref.ensures.value ∙ items) c.messages.ensures c.hold.ensures
