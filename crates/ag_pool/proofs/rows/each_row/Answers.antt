use Rattle.std.proofs.Common.{◌<◌, ◌∙◌, sym, arith, rules}
use Rattle.linear_theory.specs.Tables.{rows_of}
use Rattle.linear_theory.proofs.Tables.{length-rows_of}
use Rattle.ag_pool.proofs.Bands.{part_ready, part_numbers, part_first, bands_acted, acted_same}
use Rattle.ag_pool.proofs.Schedules.{every_schedule}
use Rattle.ag_pool.proofs.rows.each_row.Goals as goal

pub for_each_chunk_mut-requires-clause-accepts : goal.for_each_chunk_mut-requires-clause-accepts
for_each_chunk_mut-requires-clause-accepts g c κs within start p chunk =
    let some : 0 < c.max-band.result = omega arith in (
      (
        c.requires.some,
        part_first c.args.rows c.args.cols start c.args.table.now p.now c.requires.some c.requires.fits (omega arith) chunk.nonempty chunk.in_bounds,
        part_numbers c.args.rows c.args.cols start c.args.table.now p.now c.requires.some c.requires.fits (omega arith) chunk.in_bounds,
        part_ready (g.W.RowWork.ready c.args.work.now) c.args.rows c.args.cols c.max-band.result start c.args.table.now p.now c.requires.some c.requires.fits c.requires.ready chunk some,
      ),
      search rules,
    )

pub returns-clause-acted : goal.returns-clause-acted
returns-clause-acted g c =
    bands_acted (g.W.RowWork.after c.args.work.now) c.args.rows c.args.cols c.max-band.result c.args.table.now c.for_each_chunk_mut.new.s c.requires.some (omega arith) c.requires.fits
    (λ n l. let h = c.for_each_chunk_mut.ensures.chunks n l in acted_same (g.W.RowWork.after c.args.work.now) _ c.args.cols h.argument_is h.left h.call)

pub returns-clause-schedules : goal.returns-clause-schedules
returns-clause-schedules g c =
    every_schedule (g.W.RowWork.after c.args.work.now) (rows_of c.args.rows c.args.cols c.args.table.now) (rows_of c.args.rows c.args.cols c.for_each_chunk_mut.new.s)
    (length-rows_of c.args.rows c.args.cols c.for_each_chunk_mut.new.s ∙ sym (length-rows_of c.args.rows c.args.cols c.args.table.now))
    (bands_acted (g.W.RowWork.after c.args.work.now) c.args.rows c.args.cols c.max-band.result c.args.table.now c.for_each_chunk_mut.new.s c.requires.some (omega arith) c.requires.fits
    (λ n l. let h = c.for_each_chunk_mut.ensures.chunks n l in acted_same (g.W.RowWork.after c.args.work.now) _ c.args.cols h.argument_is h.left h.call))
