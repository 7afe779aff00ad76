use Rattle.std.proofs.Common.{◌^◌, ◌<◌, ◌∙◌, length, get_or}
use Rattle.std.proofs.lemmas.Bool.{OnTrue_at, OnTrue_from, OnFalse_at, OnFalse_from}
use Rattle.std.proofs.lemmas.List.Elements.{All-from_get_or}
use Rattle.gf_linear.proofs.Sides.{column_symbols, sides_none, sides_solve, sides_free, sides_below}
use Rattle.gf_linear.proofs.solutions.find_solution.Goals as goal

pub reduce-count-requires-clause-symbols : goal.reduce-count-requires-clause-symbols
reduce-count-requires-clause-symbols g c =
    column_symbols (g.F.Field.bits_of c.args.f.now) (length c.args.x.now) c.args.entries.now c.args.rhs.now c.join_sides.new.joined c.requires.entry_symbols c.requires.rhs_symbols (c.join_sides.auto.joined ∙ c.requires.wide) c.join_sides.ensures

pub returns-clause-none : goal.returns-clause-none
returns-clause-none g c =
    let f = c.args.f.now in
    let b = g.F.Field.bits_of f in
    let n = length c.args.x.now in
    OnFalse_from c.read_solution.result _ (λ e.
    sides_none b (g.F.Field.modulus_of f) n (length c.args.rhs.now) c.reduce-count.result c.args.entries.now c.args.rhs.now c.join_sides.new.joined c.reduce-count.new.m (g.met.F.Field.is_modulus f)
    (column_symbols b n c.args.entries.now c.args.rhs.now c.join_sides.new.joined c.requires.entry_symbols c.requires.rhs_symbols (c.join_sides.auto.joined ∙ c.requires.wide) c.join_sides.ensures)
    c.reduce-count.ensures.symbols c.join_sides.ensures c.reduce-count.ensures.reduced c.reduce-count.ensures.span (OnFalse_at e c.read_solution.ensures.none c.reduce-count.ensures.reduced))

pub returns-clause-solves : goal.returns-clause-solves
returns-clause-solves g c =
    let f = c.args.f.now in
    let b = g.F.Field.bits_of f in
    let n = length c.args.x.now in
    let h = c.reduce-count.ensures.reduced in
    OnTrue_from c.read_solution.result _ (λ e.
    sides_solve b (g.F.Field.modulus_of f) n (length c.args.rhs.now) c.reduce-count.result c.args.entries.now c.args.rhs.now c.join_sides.new.joined c.reduce-count.new.m (g.met.F.Field.is_modulus f)
    (column_symbols b n c.args.entries.now c.args.rhs.now c.join_sides.new.joined c.requires.entry_symbols c.requires.rhs_symbols (c.join_sides.auto.joined ∙ c.requires.wide) c.join_sides.ensures)
    c.reduce-count.ensures.symbols c.join_sides.ensures h c.reduce-count.ensures.span (λ j. get_or c.read_solution.new.x j 0)
    (OnTrue_at e c.read_solution.ensures.at_pivots h) (OnTrue_at e c.read_solution.ensures.elsewhere h) (OnTrue_at e c.read_solution.ensures.low h))

pub returns-clause-free : goal.returns-clause-free
returns-clause-free g c =
    let f = c.args.f.now in
    let b = g.F.Field.bits_of f in
    let n = length c.args.x.now in
    let h = c.reduce-count.ensures.reduced in
    OnTrue_from c.read_solution.result _ (λ e.
    sides_free b (g.F.Field.modulus_of f) n (length c.args.rhs.now) c.reduce-count.result c.args.entries.now c.args.rhs.now c.join_sides.new.joined c.reduce-count.new.m (g.met.F.Field.is_modulus f)
    (column_symbols b n c.args.entries.now c.args.rhs.now c.join_sides.new.joined c.requires.entry_symbols c.requires.rhs_symbols (c.join_sides.auto.joined ∙ c.requires.wide) c.join_sides.ensures)
    c.reduce-count.ensures.symbols c.join_sides.ensures h c.reduce-count.ensures.span (λ j. get_or c.read_solution.new.x j 0)
    (OnTrue_at e c.read_solution.ensures.at_pivots h) (OnTrue_at e c.read_solution.ensures.elsewhere h))

pub returns-clause-symbols : goal.returns-clause-symbols
returns-clause-symbols g c =
    let f = c.args.f.now in
    let b = g.F.Field.bits_of f in
    let n = length c.args.x.now in
    let h = c.reduce-count.ensures.reduced in
    OnTrue_from c.read_solution.result _ (λ e. All-from_get_or (λ a. a < 2 ^ b) c.read_solution.new.x 0 (λ j l.
    sides_below b (g.F.Field.modulus_of f) n (length c.args.rhs.now) c.reduce-count.result c.args.entries.now c.args.rhs.now c.join_sides.new.joined c.reduce-count.new.m (g.met.F.Field.is_modulus f)
    (column_symbols b n c.args.entries.now c.args.rhs.now c.join_sides.new.joined c.requires.entry_symbols c.requires.rhs_symbols (c.join_sides.auto.joined ∙ c.requires.wide) c.join_sides.ensures)
    c.reduce-count.ensures.symbols c.join_sides.ensures h c.reduce-count.ensures.span (λ j. get_or c.read_solution.new.x j 0)
    (OnTrue_at e c.read_solution.ensures.at_pivots h) (OnTrue_at e c.read_solution.ensures.elsewhere h) j))
