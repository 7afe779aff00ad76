use Rattle.std.proofs.Common.{arith}
use Rattle.product_classes.proofs.Shifting.{source_at, read_at}
use Rattle.product_classes.proofs.shifts.Shift.source.Goals as goal

pub returns-then-column-n : goal.returns-then-column-n
returns-then-column-n g c =
    let b = c.args.basis.now in
    let s = c.args.self.now in
    source_at b s c.args.i c.args.j c.index-row.result.now c.index-column.result.now c.n-n.ensures.sound c.requires.shift c.requires.row c.requires.column
    (read_at s.back.items c.args.i b.n c.index-row.result.now c.index-row.ensures c.requires.row c.requires.shift.room.n_back)
    (read_at s.next.items c.args.j b.n c.index-column.result.now c.index-column.ensures c.requires.column c.requires.shift.room.n_next)
    (omega (arith, c.if-row-n.true, c.n-n.ensures.value))
    (omega (arith, c.if-column-n.true, c.n-n.ensures.value))
