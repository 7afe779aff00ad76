use Rattle.plain_voter.specs.Sheets.{table_rank}
use Rattle.plain_voter.proofs.Grids.{tested_row, tested_column}
use Rattle.plain_voter.proofs.sheet.is_candidate.Goals as goal

pub returns-then-with_row-before-clause-value : goal.returns-then-with_row-before-clause-value
returns-then-with_row-before-clause-value g c =
    let R = table_rank (g.F.Field.bits_of c.args.f.now) (g.F.Field.modulus_of c.args.f.now) c.args.sheet.now.table in
    tested_column R c.args.i c.args.j c.part_rank-before.result c.part_rank-with_row.result c.part_rank-with_column.result c.part_rank-before.ensures.value c.part_rank-with_row.ensures.value c.part_rank-with_column.ensures.value c.if-with_row-before.true

pub returns-else-with_row-before-clause-value : goal.returns-else-with_row-before-clause-value
returns-else-with_row-before-clause-value g c =
    let R = table_rank (g.F.Field.bits_of c.args.f.now) (g.F.Field.modulus_of c.args.f.now) c.args.sheet.now.table in
    tested_row R c.args.i c.args.j c.part_rank-before.result c.part_rank-with_row.result c.part_rank-with_column.result c.part_rank-before.ensures.value c.part_rank-with_row.ensures.value c.part_rank-with_column.ensures.value c.if-with_row-before.false
