use Rattle.std.proofs.Common.{◌^◌, ◌<◌, ◌∙◌, sym, All}
use Rattle.gf_linear.proofs.Residues.{room_part, room_rows, part_symbols, part_rank_found}
use Rattle.gf_linear.proofs.parts.part_rank.Goals as goal

pub slice_bounds-part-end : goal.slice_bounds-part-end
slice_bounds-part-end g c =
    let a = c.room.inside in
    sym (room_part c.args.rows c.args.cols a.rows a.cols a.entries.items c.deref_mut.result.now c.args.room.now c.args.m.now c.room.view_is c.room.invariant.2 c.deref_mut.ensures.value c.requires.rows_in c.requires.cols_in c.requires.room_rows c.requires.room_cols)

pub copy_part-requires-clause-fits : goal.copy_part-requires-clause-fits
copy_part-requires-clause-fits g c =
    let a = c.room.inside in
    room_part c.args.rows c.args.cols a.rows a.cols a.entries.items c.deref_mut.result.now c.args.room.now c.args.m.now c.room.view_is c.room.invariant.2 c.deref_mut.ensures.value c.requires.rows_in c.requires.cols_in c.requires.room_rows c.requires.room_cols

pub reduce-requires-clause-fits : goal.reduce-requires-clause-fits
reduce-requires-clause-fits g c =
    let a = c.room.inside in
    c.copy_part.auto.part ∙ room_part c.args.rows c.args.cols a.rows a.cols a.entries.items c.deref_mut.result.now c.args.room.now c.args.m.now c.room.view_is c.room.invariant.2 c.deref_mut.ensures.value c.requires.rows_in c.requires.cols_in c.requires.room_rows c.requires.room_cols

pub reduce-requires-clause-symbols : goal.reduce-requires-clause-symbols
reduce-requires-clause-symbols g c =
    let a = c.room.inside in
    part_symbols (g.F.Field.bits_of c.args.f.now) c.args.rows c.args.cols c.args.m.now c.copy_part.new.part c.requires.symbols
    (c.copy_part.auto.part ∙ room_part c.args.rows c.args.cols a.rows a.cols a.entries.items c.deref_mut.result.now c.args.room.now c.args.m.now c.room.view_is c.room.invariant.2 c.deref_mut.ensures.value c.requires.rows_in c.requires.cols_in c.requires.room_rows c.requires.room_cols)
    c.copy_part.ensures

pub returns-clause-value : goal.returns-clause-value
returns-clause-value g c =
    let a = c.room.inside in
    let f = c.args.f.now in
    let b = g.F.Field.bits_of f in
    let sy : All (λ x. x < 2 ^ b) c.copy_part.new.part =
    part_symbols b c.args.rows c.args.cols c.args.m.now c.copy_part.new.part c.requires.symbols
    (c.copy_part.auto.part ∙ room_part c.args.rows c.args.cols a.rows a.cols a.entries.items c.deref_mut.result.now c.args.room.now c.args.m.now c.room.view_is c.room.invariant.2 c.deref_mut.ensures.value c.requires.rows_in c.requires.cols_in c.requires.room_rows c.requires.room_cols)
    c.copy_part.ensures in
    part_rank_found b (g.F.Field.modulus_of f) c.args.rows c.args.cols c.reduce.result c.args.m.now c.copy_part.new.part c.reduce.new.m (g.met.F.Field.is_modulus f) c.requires.symbols sy c.reduce.ensures.symbols
    c.copy_part.ensures c.reduce.ensures.reduced c.reduce.ensures.span

pub returns-clause-same_rows : goal.returns-clause-same_rows
returns-clause-same_rows g c = let a = c.room.inside in room_rows a.rows a.cols a.entries.items _ c.args.room.now c.room.view_is
