use Rattle.std.proofs.Common.{◌*◌, ◌∙◌, arith}
use Rattle.std.proofs.lemmas.List.{with_items_is}
use Rattle.ag_frame.specs.Queues.{closed}
use Rattle.stream_codec.proofs.Groups.{stored_closed, symbols_small}
use Rattle.stream_codec.proofs.group_writer.GroupWriter.close.Goals as goal

pub write_group-requires-clause-messages_fit : goal.write_group-requires-clause-messages_fit
write_group-requires-clause-messages_fit g c κs within =
    let bits = c.self.inside.bits in
    let fits = rw (← c.self.view_is) at c.requires.fits in
    let items = with_items_is c.self.inside.messages c.close.new.msg (omega (arith, c.close.auto.msg, c.deref_mut.ensures.len)) in
    symbols_small (g.C.BlockCode.form c.args.code.now) c.self.inside.layout bits.width (closed (bits.size * bits.width) bits.waiting) c.deref.result.now fits c.self.invariant.width (c.deref.ensures.value ∙ items ∙ c.close.ensures.symbols)

pub returns-clause-written : goal.returns-clause-written
returns-clause-written g c =
    let F = g.C.BlockCode.form c.args.code.now in
    let l = c.self.inside.layout in
    let bits = c.self.inside.bits in
    let fits = rw (← c.self.view_is) at c.requires.fits in
    let items = with_items_is c.self.inside.messages c.close.new.msg (omega (arith, c.close.auto.msg, c.deref_mut.ensures.len)) in
    let group = stored_closed F l bits.size bits.width bits.waiting c.deref.result.now fits c.self.invariant.size c.self.invariant.width (c.deref.ensures.value ∙ items ∙ c.close.ensures.symbols) in
    rw (← c.self.view_is) (rw group at c.write_group.ensures)
