use Rattle.std.proofs.Common.{◌*◌, take, ap, sym, ◌∙◌, arith}
use Rattle.std.proofs.lemmas.List.{with_items_is}
use Rattle.stored_form.specs.Frame.{group_of}
use Rattle.stream_codec.specs.Layouts.{in_groups}
use Rattle.stream_codec.proofs.FitLemmas.{fits_bits}
use Rattle.stream_codec.proofs.Groups.{stored_symbols, symbols_small}
use Rattle.stream_codec.proofs.group_writer.GroupWriter.write_next.Goals as goal

pub write_group-requires-clause-messages_fit : goal.write_group-requires-clause-messages_fit
write_group-requires-clause-messages_fit g c κs within =
    let bits = c.self.inside.bits in
    let fits = rw (← c.self.view_is) at c.requires.fits in
    let items = with_items_is c.self.inside.messages c.take.new.msg (omega (arith, c.take.auto.msg, c.deref_mut.ensures.len)) in
    symbols_small (g.C.BlockCode.form c.args.code.now) c.self.inside.layout bits.width (take (bits.size * bits.width) bits.waiting) c.deref.result.now fits c.self.invariant.width (c.deref.ensures.value ∙ items ∙ c.take.ensures.symbols)

pub returns-clause-written : goal.returns-clause-written
returns-clause-written g c =
    let F = g.C.BlockCode.form c.args.code.now in
    let l = c.self.inside.layout in
    let bits = c.self.inside.bits in
    let fits = rw (← c.self.view_is) at c.requires.fits in
    let items = with_items_is c.self.inside.messages c.take.new.msg (omega (arith, c.take.auto.msg, c.deref_mut.ensures.len)) in
    let group = stored_symbols F l bits.size bits.width bits.waiting c.deref.result.now fits c.self.invariant.size c.self.invariant.width (c.deref.ensures.value ∙ items ∙ c.take.ensures.symbols) in
    let next = group ∙ ap (λ n. group_of (in_groups l F) (take n bits.waiting)) (sym (fits_bits F l fits)) in
    rw (← c.self.view_is) (rw next at c.write_group.ensures)
