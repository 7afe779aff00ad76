use Rattle.std.proofs.Common.{ℕ, ◌+◌, ◌^◌, ◌<◌, ◌∙◌, sym, ap, subst, get_or, List, arith}
use Rattle.std.proofs.lemmas.List.Elements.{All-from_get_or}
use Rattle.gf_theory.specs.Field.{gf_mul}
use Rattle.linear_theory.specs.Linear.{KeepsRank}
use Rattle.gf_linear.specs.Matrix.{entry}
use Rattle.gf_linear.proofs.Residues.{room_part, room_rows, part_symbols, residue_found, residue_only}
use Rattle.gf_linear.proofs.parts.part_residue.Goals as goal

pub slice_bounds-part-end : goal.slice_bounds-part-end
slice_bounds-part-end g c =
    let a = c.room.inside in
    sym (room_part c.args.i (c.args.j + 1) a.rows a.cols a.entries.items c.deref_mut.result.now c.args.room.now c.args.m.now c.room.view_is c.room.invariant.2 c.deref_mut.ensures.value (omega arith) (omega arith) c.requires.room_rows c.requires.room_cols)

pub copy_part-requires-clause-fits : goal.copy_part-requires-clause-fits
copy_part-requires-clause-fits g c =
    let a = c.room.inside in
    room_part c.args.i (c.args.j + 1) a.rows a.cols a.entries.items c.deref_mut.result.now c.args.room.now c.args.m.now c.room.view_is c.room.invariant.2 c.deref_mut.ensures.value (omega arith) (omega arith) c.requires.room_rows c.requires.room_cols

pub reduce-count-requires-clause-fits : goal.reduce-count-requires-clause-fits
reduce-count-requires-clause-fits g c =
    let a = c.room.inside in
    c.copy_part.auto.part ∙ room_part c.args.i (c.args.j + 1) a.rows a.cols a.entries.items c.deref_mut.result.now c.args.room.now c.args.m.now c.room.view_is c.room.invariant.2 c.deref_mut.ensures.value (omega arith) (omega arith) c.requires.room_rows c.requires.room_cols

pub reduce-count-requires-clause-symbols : goal.reduce-count-requires-clause-symbols
reduce-count-requires-clause-symbols g c =
    let a = c.room.inside in
    part_symbols (g.F.Field.bits_of c.args.f.now) c.args.i (c.args.j + 1) c.args.m.now c.copy_part.new.part c.requires.symbols
    (c.copy_part.auto.part ∙ room_part c.args.i (c.args.j + 1) a.rows a.cols a.entries.items c.deref_mut.result.now c.args.room.now c.args.m.now c.room.view_is c.room.invariant.2 c.deref_mut.ensures.value (omega arith) (omega arith) c.requires.room_rows c.requires.room_cols)
    c.copy_part.ensures

pub residue-requires-clause-fits : goal.residue-requires-clause-fits
residue-requires-clause-fits g c =
    let a = c.room.inside in
    c.reduce-count.auto.m ∙ c.copy_part.auto.part ∙ room_part c.args.i (c.args.j + 1) a.rows a.cols a.entries.items c.deref_mut.result.now c.args.room.now c.args.m.now c.room.view_is c.room.invariant.2 c.deref_mut.ensures.value (omega arith) (omega arith) c.requires.room_rows c.requires.room_cols

pub residue-requires-clause-row_symbols : goal.residue-requires-clause-row_symbols
residue-requires-clause-row_symbols g c =
    let b = g.F.Field.bits_of c.args.f.now in
    All-from_get_or (λ x. x < 2 ^ b) c.row.result.now 0 (λ p l. subst (λ (x : ℕ). x < 2 ^ b) (ap (λ (w : List ℕ). get_or w p 0) (sym c.row.ensures.row)) (c.requires.symbols.below c.args.i p))

pub returns-clause-keeps : goal.returns-clause-keeps
returns-clause-keeps g c =
    let f = c.args.f.now in
    residue_found (g.F.Field.bits_of f) (g.F.Field.modulus_of f) c.args.i c.args.j c.reduce-count.result c.args.m.now c.copy_part.new.part c.reduce-count.new.m (g.met.F.Field.is_modulus f) c.requires.symbols c.reduce-count.ensures.symbols
    c.copy_part.ensures c.reduce-count.ensures.reduced c.reduce-count.ensures.span c.requires.candidate c.residue.result (λ q. get_or c.row.result.now q 0)
    (λ q l. ap (λ (w : List ℕ). get_or w q 0) c.row.ensures.row) (c.residue.ensures.value c.reduce-count.ensures.reduced)

pub returns-clause-only : goal.returns-clause-only
returns-clause-only g c x lx hx =
    let f = c.args.f.now in
    let b = g.F.Field.bits_of f in
    let md = g.F.Field.modulus_of f in
    let keeps : KeepsRank (2 ^ b) (gf_mul b md) (entry c.args.m.now) c.args.i c.args.j c.residue.result =
    residue_found b md c.args.i c.args.j c.reduce-count.result c.args.m.now c.copy_part.new.part c.reduce-count.new.m (g.met.F.Field.is_modulus f) c.requires.symbols c.reduce-count.ensures.symbols
    c.copy_part.ensures c.reduce-count.ensures.reduced c.reduce-count.ensures.span c.requires.candidate c.residue.result (λ q. get_or c.row.result.now q 0)
    (λ q l. ap (λ (w : List ℕ). get_or w q 0) c.row.ensures.row) (c.residue.ensures.value c.reduce-count.ensures.reduced) in
    residue_only b md c.args.i c.args.j c.reduce-count.result c.args.m.now c.copy_part.new.part c.reduce-count.new.m (g.met.F.Field.is_modulus f) c.requires.symbols c.reduce-count.ensures.symbols
    c.copy_part.ensures c.reduce-count.ensures.reduced c.reduce-count.ensures.span c.requires.candidate c.residue.result x c.residue.ensures.symbol lx keeps hx

pub returns-clause-same_rows : goal.returns-clause-same_rows
returns-clause-same_rows g c = let a = c.room.inside in room_rows a.rows a.cols a.entries.items _ c.args.room.now c.room.view_is
