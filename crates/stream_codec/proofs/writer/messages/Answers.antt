use Rattle.std.proofs.Common.{ℕ, ◌+◌, ◌-◌, ◌*◌, ◌≡◌, length, ap, sym, ◌∙◌, arith}
use Rattle.stored_form.specs.Form.{message_of}
use Rattle.stream_codec.proofs.Groups.{part_long}
use Rattle.stream_codec.proofs.SlotLemmas.{message_step, message_end}
use Rattle.stream_codec.proofs.writer.messages.Goals as goal

pub loop-c-preserved : goal.loop-c-preserved
loop-c-preserved g c =
    let F = g.C.BlockCode.form c.args.code.now in
    let slots = c.args.slots.now in
    let k = c.k-k.result in
    let at = c.loop-c.c * k in
    let span : at + k - at ≡ k = omega arith in
    let long : length c.loop-c.msg ≡ length slots * k = c.loop-c.auto.msg ∙ c.requires.msg_long ∙ ap (λ (m : ℕ). length slots * m) (sym c.k-k.ensures) in
    let part = part_long c.loop-c.msg c.message.new.msg k c.loop-c.c (length slots) _ c.message.auto.msg span c.loop-c-test.true long in
    message_step (message_of F) c.loop-c.msg c.message.new.msg slots c.index-slots-c.result k c.loop-c.c _ c.loop-c-test.true (sym c.index-slots-c.is) long span part (c.message.ensures ∙ ap (message_of F) c.word.ensures) c.loop-c.invariant

pub returns : goal.returns
returns g c =
    let long : length c.loop-c.msg ≡ length c.args.slots.now * c.k-k.result = c.loop-c.auto.msg ∙ c.requires.msg_long ∙ ap (λ (m : ℕ). length c.args.slots.now * m) (sym c.k-k.ensures) in
    message_end (message_of (g.C.BlockCode.form c.args.code.now)) c.loop-c.msg c.args.slots.now c.k-k.result c.loop-c.c c.loop-c-test.false long c.loop-c.invariant
