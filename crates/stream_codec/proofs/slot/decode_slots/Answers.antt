use Rattle.std.proofs.Common.{List, ◌++◌, take, drop, ap}
use Rattle.std.proofs.lemmas.List.Elements.{All-append, All-drop}
use Rattle.stream_codec.specs.Slots.{SlotState, CanDecode, decoded}
use Rattle.stream_codec.proofs.SlotLemmas.{acted_is}
use Rattle.stream_codec.proofs.slot.decode_slots.Goals as goal

pub returns-clause-decoded : goal.returns-clause-decoded
returns-clause-decoded g c =
    ap (λ (l : List SlotState). l ++ drop c.args.count c.args.slots.now) (acted_is (decoded (g.C.BlockCode.form c.args.code.now)) (take c.args.count c.args.slots.now) c.each.new.slots c.each.auto.slots c.each.ensures.acted)

pub returns-clause-ready : goal.returns-clause-ready
returns-clause-ready g c =
    let P = CanDecode (g.C.BlockCode.form c.args.code.now) (g.C.BlockCode.numbers c.args.code.now) in
    All-append P c.each.new.slots (drop c.args.count c.args.slots.now) c.each.ensures.kept (All-drop P c.args.count c.args.slots.now c.requires.ready)
