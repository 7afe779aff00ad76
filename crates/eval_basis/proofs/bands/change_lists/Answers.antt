use Rattle.std.proofs.Common.{◌∙◌, length}
use Rattle.gf_theory.specs.Field.{gf_mul}
use Rattle.gf_linear.specs.Cells.{cell}
use Rattle.eval_basis.specs.Lists.{AreTakes, after_takes}
use Rattle.eval_basis.proofs.AfterTakes.{after_same}
use Rattle.eval_basis.proofs.FlatTables.{acted_cells, rows_meet, is_tabled}
use Rattle.eval_basis.proofs.bands.change_lists.Goals as goal

pub each_row-requires-clause-ready : goal.each_row-requires-clause-ready
each_row-requires-clause-ready g c κs within =
    let b = g.F.Field.bits_of c.args.f.now in
    rows_meet (λ n. AreTakes b n c.args.numbers.now c.args.factors.now c.args.products.now) b c.args.n c.args.n c.args.symbols.now c.requires.fits c.requires.takes c.requires.symbols

pub returns : goal.returns
returns g c =
    let mul = gf_mul (g.F.Field.bits_of c.args.f.now) (g.F.Field.modulus_of c.args.f.now) in
    let ns = c.args.numbers.now in
    let fs = c.args.factors.now in
    let t = c.args.products.now in
    is_tabled c.args.n (λ p. after_takes mul c.args.n ns fs t (length ns) (cell c.args.symbols.now c.args.n p)) c.each_row.new.table (record {
      long = c.each_row.auto.table ∙ c.requires.fits;
      entries = acted_cells c.args.n c.args.n (λ n x. after_takes mul n ns fs t (length ns) x) c.args.symbols.now c.each_row.new.table c.requires.fits
          (λ x y h p l. after_same mul c.args.n ns fs t (length ns) c.requires.takes.below x y h p l)
          c.each_row.ensures.acted;
    })
