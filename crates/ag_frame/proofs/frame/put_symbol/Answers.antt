use Rattle.std.proofs.Common.{◌*◌}
use Rattle.ag_frame.proofs.PackedSymbols.{stored_symbols-put, fill-put}
use Rattle.ag_frame.proofs.frame.put_symbol.Goals as goal

pub returns-then-layout-clause-symbols : goal.returns-then-layout-clause-symbols
returns-then-layout-clause-symbols c =
    let l = c.args.layout.now in
    stored_symbols-put l.packed l.bits (l.n * l.depth) c.args.place c.args.symbol c.args.group.now c.put_packed.new.bytes c.if-layout.true c.requires.place c.requires.long c.requires.fits c.put_packed.ensures

pub returns-then-layout-clause-fill : goal.returns-then-layout-clause-fill
returns-then-layout-clause-fill c =
    let l = c.args.layout.now in
    fill-put l.packed l.bits (l.n * l.depth) c.args.place c.args.symbol c.args.group.now c.put_packed.new.bytes c.if-layout.true c.requires.place c.requires.long c.put_packed.ensures
