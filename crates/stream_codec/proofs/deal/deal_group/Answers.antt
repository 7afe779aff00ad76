use Rattle.std.proofs.Common.{length, ap, refl, ◌+◌, ◌∙◌, arith}
use Rattle.stored_form.specs.Salvage.{lost_in, changes_in}
use Rattle.ag_io.proofs.Writes.{wrote_nothing}
use Rattle.stream_codec.proofs.LineLemmas.{settled_lines, few_lost_slots}
use Rattle.stream_codec.proofs.DealLemmas.{tally_equal, held_after, writer_small, few_group_lines, none_more, none_where_stopped}
use Rattle.stream_codec.specs.Slots.{blocks_of}
use Rattle.stream_codec.proofs.deal.deal_group.Goals as goal

pub overflow_add-tally : goal.overflow_add-tally
overflow_add-tally g c =
    omega (arith, c.in-Ok.ensures.few, writer_small (g.C.BlockCode.form c.args.code.now) c.args.writer.now (length c.args.slots.now) c.n-n.ensures.code c.requires.few c.requires.size c.requires.width)

pub returns-in-Some-clause-dealt : goal.returns-in-Some-clause-dealt
returns-in-Some-clause-dealt g c =
    let (stop, lost) = c.in-Some.ensures (g.C.BlockCode.form c.args.code.now) c.requires.settled in
    (stop, refl, lost, c.in-Ok.ensures.written.0, wrote_nothing _ _)

pub overflow_add-tally-in-Ok-tell_group : goal.overflow_add-tally-in-Ok-tell_group
overflow_add-tally-in-Ok-tell_group g c =
    let code = c.n-n.ensures.code in
    omega (arith, c.in-Ok-tell_group.ensures.1, few_group_lines c.n-n.result c.args.tally.now.groups c.args.slots.now (omega (arith, c.n-n.ensures.n, code.n_most)) c.requires.few, c.requires.counts.changes, c.requires.groups)

pub overflow_add-tally-in-Ok-tell_group-2 : goal.overflow_add-tally-in-Ok-tell_group-2
overflow_add-tally-in-Ok-tell_group-2 g c =
    omega (arith, c.in-Ok-tell_group.ensures.2, few_lost_slots c.n-n.result c.args.tally.now.groups 0 c.args.slots.now, c.requires.few, c.requires.counts.lost, c.requires.groups)

pub returns-in-Err-tell_group-clause-dealt : goal.returns-in-Err-tell_group-clause-dealt
returns-in-Err-tell_group-clause-dealt g c =
    let F = g.C.BlockCode.form c.args.code.now in
    let same = settled_lines F c.n-n.result c.args.tally.now.groups 0 c.args.slots.now c.n-n.ensures.n c.requires.settled in
    (none_where_stopped F c.args.when_lost c.args.tally.now.groups (blocks_of c.args.slots.now) (c.in_default.ensures F c.requires.settled), c.in-Ok.ensures.written.0, rw same at c.in-Err-tell_group.ensures)

pub returns-clause-dealt : goal.returns-clause-dealt
returns-clause-dealt g c =
    let F = g.C.BlockCode.form c.args.code.now in
    let same = settled_lines F c.n-n.result c.args.tally.now.groups 0 c.args.slots.now c.n-n.ensures.n c.requires.settled in
    record {
      wrote = c.in-Ok.ensures.written.0;
      told = rw same at c.in-Ok-tell_group.ensures.0;
      holds = held_after F c.args.writer.now c.release.new.self c.hold.new.self c.args.slots.now c.requires.settled c.release.ensures.left c.hold.ensures;
      counts_are = tally_equal c.args.tally.now _ _ _ _ _ _ c.in-Ok.ensures.written.1 (c.in-Ok-tell_group.ensures.1 ∙ ap changes_in same) (c.in-Ok-tell_group.ensures.2 ∙ ap lost_in same);
    }

pub returns-clause-counts : goal.returns-clause-counts
returns-clause-counts g c =
    let F = g.C.BlockCode.form c.args.code.now in
    let slots = c.args.slots.now in
    let code = c.n-n.ensures.code in
    record {
      bytes = omega (arith, c.in-Ok.ensures.few, c.requires.counts.bytes, writer_small F c.args.writer.now (length slots) code c.requires.few c.requires.size c.requires.width);
      changes = omega (arith, c.in-Ok-tell_group.ensures.1, c.requires.counts.changes, few_group_lines c.n-n.result c.args.tally.now.groups slots (omega (arith, c.n-n.ensures.n, code.n_most)) c.requires.few);
      lost = omega (arith, c.in-Ok-tell_group.ensures.2, c.requires.counts.lost, few_lost_slots c.n-n.result c.args.tally.now.groups 0 slots, c.requires.few);
    }

pub returns-clause-none : goal.returns-clause-none
returns-clause-none g c =
    let F = g.C.BlockCode.form c.args.code.now in
    let slots = c.args.slots.now in
    let same = settled_lines F c.n-n.result c.args.tally.now.groups 0 slots c.n-n.ensures.n c.requires.settled in
    none_more c.args.when_lost c.args.tally.now.lost _ _ c.requires.none (none_where_stopped F c.args.when_lost c.args.tally.now.groups (blocks_of slots) (c.in_default.ensures F c.requires.settled)) (ap (λ m. c.args.tally.now.lost + m) (c.in-Ok-tell_group.ensures.2 ∙ ap lost_in same))
