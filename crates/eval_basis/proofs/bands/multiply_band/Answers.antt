use Rattle.std.proofs.Common.{ℕ, ◌<◌, ◌^◌, ◌∙◌, sym, subst, ap}
use Rattle.field_theory.proofs.Sums.{sum_below, sum-same}
use Rattle.gf_theory.specs.Field.{gf_mul}
use Rattle.linear_theory.specs.Linear.{combine}
use Rattle.gf_linear.specs.Cells.{cell}
use Rattle.gf_linear.proofs.Steps.{All-cells}
use Rattle.eval_basis.specs.Lists.{AreSeen}
use Rattle.eval_basis.proofs.Stepping.{field_of}
use Rattle.eval_basis.proofs.FlatTables.{acted_cells, rows_meet}
use Rattle.eval_basis.proofs.bands.multiply_band.Goals as goal

pub each_row-requires-clause-ready : goal.each_row-requires-clause-ready
each_row-requires-clause-ready g c κs within =
    let b = g.F.Field.bits_of c.args.f.now in
    rows_meet (λ n. AreSeen b n c.args.symbols.now c.args.used.now) b c.args.rows c.args.n c.args.table.now c.requires.fits c.requires.seen c.requires.values

pub returns-clause-products : goal.returns-clause-products
returns-clause-products g c =
    let mul = gf_mul (g.F.Field.bits_of c.args.f.now) (g.F.Field.modulus_of c.args.f.now) in
    acted_cells c.args.rows c.args.n (λ n x. combine mul n x (cell c.args.symbols.now n)) c.args.table.now c.each_row.new.table c.requires.fits
    (λ x y h p l. sum-same c.args.n (λ i. mul (x i) (cell c.args.symbols.now c.args.n i p)) (λ i. mul (y i) (cell c.args.symbols.now c.args.n i p)) (λ i li. ap (λ (a : ℕ). mul a (cell c.args.symbols.now c.args.n i p)) (h i li)))
    c.each_row.ensures.acted

pub returns-clause-symbols : goal.returns-clause-symbols
returns-clause-symbols g c =
    let b = g.F.Field.bits_of c.args.f.now in
    let m = g.F.Field.modulus_of c.args.f.now in
    let n = c.args.n in
    let old = c.args.table.now in
    let symbols = c.args.symbols.now in
    All-cells (λ x. x < 2 ^ b) c.args.rows n c.each_row.new.table (c.each_row.auto.table ∙ c.requires.fits)
    (λ i j li lj.
    subst (λ (x : ℕ). x < 2 ^ b)
    (sym (acted_cells c.args.rows n (λ n x. combine (gf_mul b m) n x (cell symbols n)) old c.each_row.new.table c.requires.fits
    (λ x y h p l. sum-same n (λ i. gf_mul b m (x i) (cell symbols n i p)) (λ i. gf_mul b m (y i) (cell symbols n i p)) (λ i li. ap (λ (a : ℕ). gf_mul b m a (cell symbols n i p)) (h i li)))
    c.each_row.ensures.acted i j li lj))
    (sum_below (2 ^ b) (gf_mul b m) (field_of b m c.bits.ensures.field) n (λ p. gf_mul b m (cell old n i p) (cell symbols n p j)) (λ p lp. (field_of b m c.bits.ensures.field).mul_below (cell old n i p) (cell symbols n p j))))
